-- The entries of the blocks that are due, one after the other.
use Rattle.std.proofs.Common.{◌≡◌, ℕ, ◌+◌, ◌-◌, ◌≤◌, Option, Some, None, List, [], ◌∷◌, ◌++◌, map, length, sym, ap, ◌∙◌, arith, append_assoc, append-nil, length-append, refl}
use Rattle.subscribe_core.specs.declared.entry.Entry.{Entry}
use Rattle.subscribe_core.specs.declared.entry.Entry.TheVariants as says
use Rattle.subscribe_core.specs.declared.registers.LiveState.{LiveState}
use Rattle.subscribe_core.specs.declared.registers.Register.{Register}
use Rattle.subscribe_core.specs.computed.Deadlines.{due_from, due_positions, helds}
use Rattle.subscribe_core.specs.computed.Steps.{expired_entries}
use Rattle.subscribe_core.proofs.Due.{entries_are, expired_at}
use Rattle.subscribe_core.proofs.Nodes.{onward}

-- the entries before the next block, and those from it on
abbrev pub AreListed : (A : Type 0) → ℕ → ℕ → List (Option LiveState) → List (Entry A) → Option ℕ → List (Entry A) → Type 0
AreListed A now n held entries next before =
    entries ++ map (expired_at A) (onward now held n next) ≡ before ++ map (expired_at A) (due_positions now 0 held)

pub listed_first : (A : Type 0) (now n : ℕ) (held : List (Option LiveState)) (next : Option ℕ) (entries : List (Entry A)) → onward now held n next ≡ due_positions now 0 held
    → AreListed A now n held entries next entries
listed_first A now n held next entries e = ap (λ (ps : List ℕ). entries ++ map (expired_at A) ps) e

pub listed_more : (A : Type 0) (now n at : ℕ) (held : List (Option LiveState)) (old next : Option ℕ) (before entries more : List (Entry A)) → old ≡ Some at → more ≡ entries ++ says.Expired at ∷ []
    → due_from now held (at + 1) (n - (at + 1)) ≡ onward now held n next → AreListed A now n held entries old before → AreListed A now n held more next before
listed_more A now n at held old next before entries more is e on so =
    ap (λ (es : List (Entry A)). es ++ map (expired_at A) (onward now held n next)) e
    ∙ (append_assoc entries (says.Expired at ∷ []) (map (expired_at A) (onward now held n next))
    ∙ (ap (λ (ps : List ℕ). entries ++ says.Expired at ∷ map (expired_at A) ps) (sym on)
    ∙ (ap (λ (o : Option ℕ). entries ++ map (expired_at A) (onward now held n o)) (sym is) ∙ so)))

-- where none is due, there is no next one
pub listed_none : (A : Type 0) (now n at : ℕ) (held : List (Option LiveState)) (next : Option ℕ) (before entries : List (Entry A)) → next ≡ Some at → length before ≤ length entries
    → due_positions now 0 held ≡ [] → AreListed A now n held entries next before → ⊥
listed_none A now n at held next before entries is le none so =
    let rest : List (Entry A) = map (expired_at A) (due_from now held (at + 1) (n - (at + 1))) in
    let whole : entries ++ says.Expired at ∷ rest ≡ before =
    ap (λ (o : Option ℕ). entries ++ map (expired_at A) (onward now held n o)) (sym is)
    ∙ (so ∙ (ap (λ (ps : List ℕ). before ++ map (expired_at A) ps) none ∙ append-nil before)) in
    let long = sym (length-append entries (says.Expired at ∷ rest)) ∙ ap length whole in
    omega (arith, long)

-- where there is no next one, all are listed
pub listed_all : (A : Type 0) (now n : ℕ) (registers : List Register) (next : Option ℕ) (before entries : List (Entry A)) → ((at : ℕ) → next ≡ Some at → ⊥) → AreListed A now n (helds registers) entries next before
    → entries ≡ before ++ expired_entries now 0 registers
listed_all A now n registers (Some at) before entries none so = absurd (none at refl)
listed_all A now n registers None before entries none so = sym (append-nil entries) ∙ (so ∙ ap (λ (es : List (Entry A)). before ++ es) (entries_are A now 0 registers))
