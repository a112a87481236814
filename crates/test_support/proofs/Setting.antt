-- What the two walks have in common. Assumes `Logic`.
--     given_to                   the type and the tables that a body is taken at
--     itself, pointer, word      its parameters: a `&` to the refusing allocator, a raw pointer, a `usize`
--     forgotten, gone            nothing is kept of a parameter, and its type asks for nothing at the return
use mathlib.Core.List.{[], ◌∷◌}
use mir.Syntax.{Args, tcons, tnil, dcons, dnil}
use types.Logic.{Logic}
use seplogic.Ra.Ura.{Ura}
use denote.Builtin.{usize, RefOf}
use denote.Exit.{yes}
use denote.Param.{layout}
use denote.RawPtr.{RawPtr}
use denote.Signature.{Slot, plain}
use denote.Triple.Walked.{Stay, Goes, Silent, stay_dropped, Goes-dropped}
use Rattle.std.proofs.alloc.Calls.{Al}
use Rattle.test_support.proofs.OwnCalls.{Refusing}

module _ (Z : Al) where
  abbrev pub given_to : Args
  given_to = (tcons (layout Z.row) tnil, dcons Z.d (dcons Z.drops dnil))

  abbrev pub itself : Slot 2
  itself = RefOf (0 ∷ []) tt (plain (λ _. Refusing Z)) (λ _. tt)

abbrev pub pointer : Slot 2
pointer = plain (λ _. RawPtr)

abbrev pub word : Slot 2
word = plain (λ _. usize)

abbrev pub forgotten : (s : Slot 2) → Stay s yes
forgotten s = stay_dropped s yes

pub gone : {M : Type 1} {𝓤 : Ura M} (𝓛 : Logic 𝓤) (s : Slot 2) → Silent 𝓛 2 s yes → Goes 𝓛 2 s yes (forgotten s)
gone 𝓛 s = Goes-dropped 𝓛 2 s yes
