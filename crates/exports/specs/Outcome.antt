-- What it is for a contract to determine the outcome of a call: the answer, and the last content of all memory lent to it.
use Rattle.std.specs.Prelude.{◌≡◌}
use seplogic.Ra.Ura.{Ura}
use base.Logic.{SProp, ent, sep, emp}
use prog.Memory.{Memory}
use prog.Routine.{Routine}
use types.Logic.{Logic, sem}
use contract.Lifetimes.{Lfts}
use contract.Monad.{Fun, fact}
use denote.Triple.Clauses.{Ended, Lasts, lasts}
use denote.Triple.Entry.{Args, Res}
use denote.Triple.Spec.{Spec, SpecAt}

module _ (T : Ended) where
  -- a function's contract as its theorem states it: in each model of the machine
  abbrev pub ContractOf : Type 2
  ContractOf = (M : Type 1) (𝓤 : Ura M) → (𝓛 : Logic 𝓤) → (Memory → SProp 𝓤) → (Routine → Fun 𝓤) → Spec 𝓤 T.signature

  abbrev pub Lifetimes : Type 0
  Lifetimes = Lfts T.signature.lifetimes

  abbrev pub Arguments : Lifetimes → Type 0
  Arguments κs = Args T.signature κs

  abbrev pub Answer : Lifetimes → Type 0
  Answer κs = Res T.signature κs

  -- in one model: nothing is asked, and what is ensured of an answer r says that r is x, and that lent memory ends as ws
  abbrev pub Gives : (κs : Lifetimes) (a : Arguments κs) → Answer κs → Lasts T κs a → {M : Type 1} {𝓤 : Ura M} → (𝓛 : Logic 𝓤)
      → SpecAt 𝓤 T.signature κs → Type 1
  Gives κs a x ws {𝓤 = 𝓤} 𝓛 c = (g : c.ghost) × ent 𝓤 (emp 𝓤) (c.requires g) × ((r : Answer κs)
      → ent 𝓤 (c.ensures g r) (sep 𝓤 (fact 𝓤 (r ≡ x)) (sem 𝓛 (lasts T κs a ws))))

  -- the arguments alone say which answer, and how lent memory ends
  abbrev pub Determined : ContractOf → Type 2
  Determined contract = (κs : Lifetimes) (a : Arguments κs) → (x : Answer κs) × (ws : Lasts T κs a)
      × ((M : Type 1) (𝓤 : Ura M) (𝓛 : Logic 𝓤) (mem : Memory → SProp 𝓤) (run : Routine → Fun 𝓤)
      → Gives κs a x ws 𝓛 (contract M 𝓤 𝓛 mem run κs a))
