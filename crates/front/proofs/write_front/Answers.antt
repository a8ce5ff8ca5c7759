use native.Mathlib.Omega.{arith}
use Rattle.layout.proofs.PartSizes.{front_fits}
use Rattle.front.proofs.write_front.Goals as goal

pub write_header-requires : goal.write_header-requires
write_header-requires c = let s = c.requires in (s.0, (front_fits _ _ _ s.0.low _ s.1).0)

pub write_directory-requires : goal.write_directory-requires
write_directory-requires c = let s = c.requires in let room = front_fits _ _ _ s.0.low _ s.1
    in (s.0, omega arith)

pub write_unused-requires : goal.write_unused-requires
write_unused-requires c = let s = c.requires in
    let room = front_fits _ _ _ s.0.low _ s.1 in (s.0, omega arith)
