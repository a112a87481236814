-- Where a source has ended or failed, it was read so far for one line alone.
use Rattle.std.proofs.Common.{◌≡◌, ◌⊎◌, ℕ, suc, List, [], ◌∷◌, ◌++◌, inl, inr, ap, sym, ◌∙◌, subst, arith}
use Rattle.std.proofs.lemmas.List.{append_assoc, append-nil, length-append}
use Rattle.list_core.specs.declared.device.InputEnd.{InputEnd}
use Rattle.list_core.specs.declared.device.InputEnd.TheVariants.{Open}
use Rattle.list_core.specs.Cuts.{HasNo}
use Rattle.list_core.specs.Device.{OnlyOpen}
use Rattle.list_core.specs.ItemReader.{ReaderState, OnlySkipped}
use Rattle.list_core.specs.Reader.{IsWanting}

-- octets in front of others, which are then the same
behind_same : (front xs ys : List ℕ) → front ++ xs ≡ front ++ ys → xs ≡ ys
behind_same [] xs ys e = e
behind_same (x ∷ front) xs ys e = let same : front ++ xs ≡ front ++ ys = cc in behind_same front xs ys same

no_lf_behind : (front rest : List ℕ) → HasNo 10 (front ++ rest) → HasNo 10 rest
no_lf_behind [] rest h = h
no_lf_behind (x ∷ front) rest h = no_lf_behind front rest (λ k l e. h (suc k) (omega arith) e)

wanting_behind : (front rest : List ℕ) → IsWanting (front ++ rest) → IsWanting rest
wanting_behind front rest w = (no_lf_behind front rest w.0, let few = simp length-append at w.1 in omega (arith, few))

-- what is wanted stays so behind octets that are taken off
pub wanted_behind : (z : InputEnd) (octets front rest : List ℕ) → octets ≡ front ++ rest → (z ≡ Open) ⊎ IsWanting octets → (z ≡ Open) ⊎ IsWanting rest
wanted_behind z octets front rest e (inl o) = inl o
wanted_behind z octets front rest e (inr w) = inr (wanting_behind front rest (subst IsWanting e w))

-- a source that had ended gave nothing, and what was held is wanting as before
wanted_still : (y : InputEnd) (held given skipped rest : List ℕ) → given ≡ [] → held ++ given ≡ skipped ++ rest → IsWanting held → (y ≡ Open) ⊎ IsWanting rest
wanted_still y held given skipped rest n e w =
    let same : held ≡ skipped ++ rest = sym (append-nil held) ∙ ap (λ l. held ++ l) (sym n) ∙ e in
    inr (wanting_behind skipped rest (subst IsWanting same w))

-- where a source has ended after an answer, no whole line stands from its line on
pub wanted_rest : {S : Type 0} (b c : ReaderState S) (given skipped rest : List ℕ) → (b.ending ≡ Open) ⊎ IsWanting b.held → OnlyOpen b.ending given c.ending → OnlySkipped b.left b.ending b.held given skipped c.left c.ending → b.held ++ given ≡ skipped ++ rest →
    (c.ending ≡ Open) ⊎ IsWanting rest
wanted_rest b c given skipped rest (inl h) o (inl p) e = inl (p.2 ∙ h)
wanted_rest b c given skipped rest (inr h) o (inl p) e = wanted_still c.ending b.held given skipped rest p.0 e h
wanted_rest b c given skipped rest (inl h) o (inr (p, inl q)) e = inl (q ∙ h)
wanted_rest b c given skipped rest (inr h) (inl o) (inr (p, inl q)) e = inl (q ∙ o)
wanted_rest b c given skipped rest (inr h) (inr o) (inr (p, inl q)) e = wanted_still c.ending b.held given skipped rest o.0 e h
wanted_rest b c given skipped rest h o (inr (p, inr (lines, tail, more, whole, w, is))) e =
    let same : tail ≡ more ++ rest = behind_same lines tail (more ++ rest) (sym whole ∙ e ∙ ap (λ l. l ++ rest) is ∙ append_assoc lines more rest) in
    inr (wanting_behind more rest (subst IsWanting same w))
