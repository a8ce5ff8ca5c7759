-- Where two areas of a list meet, there is a first one that meets an earlier one, and the number is the sum of those before it.
use Prim.Native.Nat.{ℕ, ◌+◌, ◌≤◌}
use mathlib.Core.Path.{◌≡◌, refl, ap}
use mathlib.Core.List.{List, [], ◌∷◌, ◌++◌}
use mathlib.Core.Logic.{⊎_elim}
use mathlib.Core.Bool.{true}
use native.Mathlib.Omega.{arith}
use Rattle.base.specs.Pick.{pick}
use Rattle.base.proofs.Steps.{true_or_false}
use Rattle.format.specs.Areas.{Area, holds, holders, shares_any, meet}
use Rattle.format.specs.CheckIn.{sectors_of, before_meeting, marked_sectors}
use Rattle.format.proofs.Areas.{any_yes, meet_two}
use Rattle.format.proofs.MarkedSectors.{apart_more}
use Rattle.laws.specs.FirstMeeting.{FirstMeeting}

-- the same after `earlier`
record MeetingAfter (earlier l : List Area) : Type 0 where
  before : List Area
  meeting : Area
  after : List Area
  split : l ≡ before ++ meeting ∷ after
  apart : (x : ℕ) → holders earlier x + holders before x ≤ 1
  meets : (x : ℕ) × (holds meeting x ≡ 1) × (1 ≤ holders earlier x + holders before x)
  is : before_meeting earlier l ≡ before

meeting_after : (earlier l : List Area) → ((x : ℕ) → holders earlier x ≤ 1) → (x : ℕ) → 2 ≤ holders earlier x + holders l x
    → MeetingAfter earlier l
unfolding before_meeting holders pick
meeting_after earlier [] h x two = absurd (omega (arith, h x))
meeting_after earlier (a ∷ l) h x two =
    ⊎_elim
    (λ y. let r = any_yes a earlier y in
    record {
      before = [];
      meeting = a;
      after = l;
      split = refl;
      apart = λ z. omega (arith, h z);
      meets = (r.0, r.1, omega (arith, r.2));
      is = rw y;
    })
    (λ n. let m = meeting_after (a ∷ earlier) l (λ z. apart_more earlier a z n (h z)) x (omega arith) in
    record {
      before = a ∷ m.before;
      meeting = m.meeting;
      after = m.after;
      split = ap (λ (k : List Area). a ∷ k) m.split;
      apart = λ z. omega (arith, m.apart z);
      meets = (m.meets.0, m.meets.1, omega (arith, m.meets.2));
      is = rw (n, m.is);
    })
    (true_or_false (shares_any a earlier))

pub meeting_first : (l : List Area) → meet l ≡ true → FirstMeeting l (marked_sectors l)
unfolding holders
meeting_first l e =
    let two = meet_two l e in
    let m = meeting_after [] l (λ x. omega arith) two.0 (omega (arith, two.1)) in
    record {
      before = m.before;
      meeting = m.meeting;
      after = m.after;
      split = m.split;
      apart = λ x. omega (arith, m.apart x);
      meets = (m.meets.0, m.meets.1, omega (arith, m.meets.2));
      counted = ap sectors_of m.is;
    }
