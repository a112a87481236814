-- Answers of a reader: one line taken off, and what two answers have in common.
use Rattle.std.specs.Io.KnownBytes.{Consumes}
use Rattle.std.proofs.Common.{Option, arith, Some, Ok, ◌≡◌, ◌⊎◌, ℕ, ◌+◌, ◌-◌, ◌≤◌, List, [], ◌∷◌, ◌++◌, length, take, drop, inl, inr, ap, subst, sym, ◌∙◌, refl}
use Rattle.std.proofs.lemmas.List.{append_assoc, append-nil, take-take}
use Rattle.std.specs.Prelude.{slice_range}
use Rattle.list_core.specs.declared.device.InputEnd.{InputEnd}
use Rattle.list_core.specs.declared.device.InputEnd.TheVariants.{Open, End, Failed}
use Rattle.list_core.specs.Lines.{CanFollow, StartsLine, without_cr}
use Rattle.list_core.specs.Device.{OnlyOpen}
use Rattle.list_core.specs.FirstLine.{IsFront}
use Rattle.list_core.specs.Reader.{Stream, AnswersLine, OnlyWanting}
use Rattle.list_core.specs.ItemReader.{OnlySkipped, WantsBehind}

pub CanFollow-none : (z : InputEnd) → CanFollow z [] z
CanFollow-none Open = tt
CanFollow-none End = (refl, refl)
CanFollow-none Failed = (refl, refl)

pub OnlyOpen-none : (z : InputEnd) → OnlyOpen z [] z
OnlyOpen-none z = inr (refl, refl)

pub OnlyOpen-append : (a b c : InputEnd) (xs ys : List ℕ) → OnlyOpen a xs b → OnlyOpen b ys c → OnlyOpen a (xs ++ ys) c
OnlyOpen-append a b c xs ys (inl p) q = inl p
OnlyOpen-append a b c xs ys (inr p) (inl q) = inl (sym p.1 ∙ q)
OnlyOpen-append a b c xs ys (inr p) (inr q) = inr (ap (λ l. l ++ ys) p.0 ∙ q.0, q.1 ∙ p.1)

-- what can follow later could follow before
pub CanFollow-given : (a b : InputEnd) (xs more : List ℕ) (z : InputEnd) → OnlyOpen a xs b → CanFollow b more z → CanFollow a (xs ++ more) z
CanFollow-given a b xs more z (inl p) f = rw p tt
CanFollow-given a b xs more z (inr p) f = rw (p.0, ← p.1) f

-- the octets taken off by two answers
pub off_after : (a g s b h t r : List ℕ) → a ++ g ≡ s ++ b → b ++ h ≡ t ++ r → a ++ (g ++ h) ≡ (s ++ t) ++ r
off_after a g s b h t r p q = sym (append_assoc a g h) ∙ ap (λ l. l ++ h) p ∙ append_assoc s b h ∙ ap (λ l. s ++ l) q ∙ sym (append_assoc s t r)

open_no_end : Open ≡ End → ⊥
open_no_end e = cc

-- what starts a line after two answers, of which the second takes its octets off those that the first left
pub starts_after : (z w : InputEnd) (s held g t r : List ℕ) → StartsLine z s held → OnlyOpen z g w → held ++ g ≡ t ++ r → StartsLine w t r → StartsLine w (s ++ t) r
starts_after z w s held g t r p o e (inr (inl q)) = inr (inl (s ++ q.0, ap (λ l. s ++ l) q.1 ∙ sym (append_assoc s q.0 (10 ∷ []))))
starts_after z w s held g t r p o e (inr (inr q)) = inr (inr q)
starts_after z w s held g t r (inl p) o e (inl q) = inl (ap (λ l. l ++ t) p ∙ q)
starts_after z w s held g t r (inr (inl p)) o e (inl q) = inr (inl (p.0, ap (λ l. s ++ l) q ∙ append-nil s ∙ p.1))
starts_after z w s held g t r (inr (inr p)) (inl o) e (inl q) = absurd (open_no_end (sym o ∙ p.1))
starts_after z w s held g t r (inr (inr p)) (inr o) e (inl q) = inr (inr (sym (ap (λ l. l ++ r) q) ∙ sym e ∙ ap (λ l. l ++ g) p.0 ∙ o.0, o.1 ∙ p.1))

-- the octets of two reads
pub regroup : (h a b m : List ℕ) → h ++ (a ++ b) ++ m ≡ h ++ a ++ (b ++ m)
regroup h a b m = simp append_assoc

-- a prefix of what lies between two places of a buffer
pub front_within : (buffer : List ℕ) (from to n : ℕ) → n ≤ to - from → slice_range buffer from (from + n) ≡ take n (slice_range buffer from to)
front_within buffer from to n few =
    let size : from + n - from ≡ n = omega arith in
    ap (λ k. take k (drop from buffer)) size ∙ sym (take-take n (to - from) (drop from buffer) few)

-- what was asked, where another stream has the same source
pub asked_by : (a b c : Option (List ℕ)) (x y z : InputEnd) (held given : List ℕ) → c ≡ b → z ≡ y → OnlyWanting a x held given b y → OnlyWanting a x held given c z
asked_by a b c x y z held given l e (inl p) = inl (p.0, l ∙ p.1, e ∙ p.2)
asked_by a b c x y z held given l e (inr (p, inl q)) = inr (p, inl (e ∙ q))
asked_by a b c x y z held given l e (inr (p, inr q)) = inr (p, inr q)

-- nothing is passed over, and these octets are given from where the first line stands
pub passed_none : (a b : Option (List ℕ)) (x y : InputEnd) (held given skipped : List ℕ) → OnlyWanting a x held given b y → OnlySkipped a x held given skipped b y
passed_none a b x y held given skipped (inl p) = inl p
passed_none a b x y held given skipped (inr (p, inl e)) = inr (([], held, skipped, refl, p, refl), inl e)
passed_none a b x y held given skipped (inr (p, inr q)) = inr (([], held, skipped, refl, p, refl), inr ([], held ++ given, skipped, refl, q, refl))

-- what is wanting behind lines, with more lines passed over later
wants_more : (octets skipped more : List ℕ) → WantsBehind octets skipped → WantsBehind octets (skipped ++ more)
wants_more octets skipped more (lines, rest, t, e, w, i) = (lines, rest, t ++ more, e, w, ap (λ l. l ++ more) i ∙ append_assoc lines t more)

-- what is wanting behind lines that stand behind others
wants_behind : (octets before inner skipped : List ℕ) → octets ≡ before ++ inner → WantsBehind inner skipped → WantsBehind octets (before ++ skipped)
wants_behind octets before inner skipped o (lines, rest, t, e, w, i) =
    (before ++ lines, rest, t, o ∙ ap (λ l. before ++ l) e ∙ sym (append_assoc before lines rest), w, ap (λ l. before ++ l) i ∙ sym (append_assoc before lines t))

-- the octets of two reads, of which the second stand behind what was passed over
joined : (h g s k f : List ℕ) → h ++ g ≡ s ++ k → h ++ (g ++ f) ≡ s ++ (k ++ f)
joined h g s k f o = sym (append_assoc h g f) ∙ ap (λ l. l ++ f) o ∙ append_assoc s k f

-- the ending told after two answers is the first one, or what was held in the end was wanting
wanting_after : (x y z : InputEnd) (h g s k f t : List ℕ) → h ++ g ≡ s ++ k → OnlyOpen x g y → OnlyOpen y f z → (y ≡ x) ⊎ WantsBehind (h ++ g) s → (z ≡ y) ⊎ WantsBehind (k ++ f) t →
    (z ≡ x) ⊎ WantsBehind (h ++ (g ++ f)) (s ++ t)
wanting_after x y z h g s k f t o m n p (inr q) = inr (wants_behind (h ++ (g ++ f)) s (k ++ f) t (joined h g s k f o) q)
wanting_after x y z h g s k f t o m n (inl p) (inl q) = inl (q ∙ p)
wanting_after x y z h g s k f t o (inr m) n (inr p) (inl q) = inl (q ∙ m.1)
wanting_after x y z h g s k f t o (inl m) (inl n) (inr p) (inl q) = inl (q ∙ n ∙ sym m)
wanting_after x y z h g s k f t o (inl m) (inr n) (inr p) (inl q) =
    let same : h ++ (g ++ f) ≡ h ++ g = ap (λ l. h ++ (g ++ l)) n.0 ∙ ap (λ l. h ++ l) (append-nil g) in
    inr (wants_more (h ++ (g ++ f)) s t (subst (λ l. WantsBehind l s) (sym same) p))

-- what was asked for two answers
pub passed_after : (a b c : Option (List ℕ)) (x y z : InputEnd) (h g s k f t : List ℕ) → h ++ g ≡ s ++ k → OnlyOpen x g y → OnlyOpen y f z → OnlySkipped a x h g s b y → OnlySkipped b y k f t c z → OnlySkipped a x h (g ++ f) (s ++ t) c z
passed_after a b c x y z h g s k f t o m n (inr (p, i)) (inl q) = inr (wants_more h s t p, wanting_after x y z h g s k f t o m n i (inl q.2))
passed_after a b c x y z h g s k f t o m n (inr (p, i)) (inr (q, j)) = inr (wants_more h s t p, wanting_after x y z h g s k f t o m n i j)
passed_after a b c x y z h g s k f t o m n (inl p) (inl q) = inl (ap (λ l. l ++ f) p.0 ∙ q.0, q.1 ∙ p.1, q.2 ∙ p.2)
passed_after a b c x y z h g s k f t o m n (inl p) (inr (q, j)) =
    let held : h ≡ s ++ k = sym (append-nil h) ∙ ap (λ l. h ++ l) (sym p.0) ∙ o in
    inr (wants_behind h s k t held q, wanting_after x y z h g s k f t o m n (inl p.2) j)

-- a line is taken off the front of what is held after a read
pub answers_line : (old mid new : Stream) (given line : List ℕ) (front : Option ℕ) (size : ℕ) → mid.held ≡ old.held ++ given → mid.taken ≡ old.taken →
    OnlyOpen old.ending given mid.ending → Consumes old.left mid.left given → OnlyWanting old.left old.ending old.held given mid.left mid.ending → length mid.held ≤ 8192 →
    front ≡ Some size → IsFront mid.ending mid.taken mid.held (Ok front) → line ≡ without_cr (take size mid.held) →
    new.left ≡ mid.left → new.ending ≡ mid.ending → new.taken ≡ mid.taken + 1 → new.held ≡ drop (size + 1) mid.held → mid.held ≡ take (size + 1) mid.held ++ new.held →
    AnswersLine old (Ok (Some line)) new
answers_line old mid new given line front size h t o k a b is first cut l e n d x =
    let f : IsFront mid.ending mid.taken mid.held (Ok (Some size)) = subst (λ r. IsFront mid.ending mid.taken mid.held (Ok r)) is first in
    record {
      given = given;
      took = rw l k;
      only_open = rw e o;
      asked = asked_by _ _ _ _ _ _ _ _ l e a;
      counted = (n ∙ ap (λ k. k + 1) t, rw n (omega (arith, f.2)));
      bounded = rw (← h) b;
      off = (take (size + 1) mid.held, sym h ∙ x, rw (e, d) f.4);
      reads = λ more z c. rw (← h, ← t, n, d, cut) (f.3 more z (rw e at c));
    }
