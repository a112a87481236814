-- What several reads and several writes leave together.
use Rattle.std.proofs.Common.{◌≡◌, ℕ, ◌+◌, ◌≤◌, List, [], ◌++◌, Option, Some, None, length, take, drop, ap, sym, ◌∙◌, refl, arith}
use Rattle.std.proofs.lemmas.List.{append_assoc, append-nil, take_at, take-append-drop, take-append-le, drop-take, take-take}
use Rattle.std.specs.Io.KnownBytes.{Appends, Consumes}
use Rattle.list_core.specs.Device.{AppendsPrefix, ConsumesSome, GivesOctets, IsFront, KeepsOrForgets}

-- one write after another
pub Appends-append : (a b c : Option (List ℕ)) (xs ys : List ℕ) → Appends a b xs → Appends b c ys → Appends a c (xs ++ ys)
Appends-append None b c xs ys p q = tt
Appends-append (Some os) None c xs ys p q = absurd p
Appends-append (Some os) (Some ps) None xs ys p q = absurd q
Appends-append (Some os) (Some ps) (Some qs) xs ys p q = q ∙ ap (λ l. l ++ ys) p ∙ append_assoc os xs ys

-- a write of a front, after whole ones
pub AppendsPrefix-append : (a b c : Option (List ℕ)) (xs ys : List ℕ) → Appends a b xs → AppendsPrefix b c ys → AppendsPrefix a c (xs ++ ys)
AppendsPrefix-append None b c xs ys p q = tt
AppendsPrefix-append (Some os) None c xs ys p q = absurd p
AppendsPrefix-append (Some os) (Some ps) None xs ys p q = tt
AppendsPrefix-append (Some os) (Some ps) (Some qs) xs ys p q =
    (xs ++ q.0, q.1, ap (λ l. xs ++ l) q.2 ∙ sym (append_assoc xs q.0 q.1), q.3 ∙ ap (λ l. l ++ q.0) p ∙ append_assoc os xs q.0)

-- nothing was written of ys
pub AppendsPrefix-none : (a b : Option (List ℕ)) (ys : List ℕ) → KeepsOrForgets a b → AppendsPrefix a b ys
AppendsPrefix-none None b ys p = tt
AppendsPrefix-none (Some os) None ys p = tt
AppendsPrefix-none (Some os) (Some ps) ys p = ([], ys, refl, p ∙ sym (append-nil os))

-- what follows was not written
pub AppendsPrefix-more : (a b : Option (List ℕ)) (xs ys : List ℕ) → AppendsPrefix a b xs → AppendsPrefix a b (xs ++ ys)
AppendsPrefix-more None b xs ys p = tt
AppendsPrefix-more (Some os) None xs ys p = tt
AppendsPrefix-more (Some os) (Some ps) xs ys p = (p.0, p.1 ++ ys, ap (λ l. l ++ ys) p.2 ∙ append_assoc p.0 p.1 ys, p.3)

pub take-add : (m n : ℕ) (s : List ℕ) → take (m + n) s ≡ take m s ++ take n (drop m s)
take-add m n s =
    let front : take m (take (m + n) s) ≡ take m s = take-take m (m + n) s (omega arith) in
    let back : drop m (take (m + n) s) ≡ take n (drop m s) = drop-take m n s in
    sym (take-append-drop m (take (m + n) s)) ∙ cc

-- one read after another
pub Consumes-append : (a b c : Option (List ℕ)) (xs ys : List ℕ) → Consumes a b xs → Consumes b c ys → Consumes a c (xs ++ ys)
Consumes-append None b c xs ys p q = tt
Consumes-append (Some os) None c xs ys p q = absurd p
Consumes-append (Some os) (Some ps) None xs ys p q = absurd q
Consumes-append (Some os) (Some ps) (Some qs) xs ys p q = p ∙ ap (λ l. xs ++ l) q ∙ sym (append_assoc xs ys qs)

-- a last read, after which what is left may no longer be told
pub Gives-append : (a b c : Option (List ℕ)) (xs ys : List ℕ) → Consumes a b xs → GivesOctets b c ys → GivesOctets a c (xs ++ ys)
Gives-append None b c xs ys p q = tt
Gives-append (Some os) None c xs ys p q = absurd p
Gives-append (Some os) (Some ps) None xs ys p q = (q.0, p ∙ ap (λ l. xs ++ l) q.1 ∙ sym (append_assoc xs ys q.0))
Gives-append (Some os) (Some ps) (Some qs) xs ys p q = p ∙ ap (λ l. xs ++ l) q ∙ sym (append_assoc xs ys qs)

pub Gives-from_Consumes : (a b : Option (List ℕ)) (xs : List ℕ) → Consumes a b xs → GivesOctets a b xs
Gives-from_Consumes None b xs p = tt
Gives-from_Consumes (Some os) None xs p = absurd p
Gives-from_Consumes (Some os) (Some ps) xs p = p

pub Consumes-none : (a : Option (List ℕ)) → Consumes a a []
Consumes-none None = tt
Consumes-none (Some os) = refl

pub Appends-none : (a : Option (List ℕ)) → Appends a a []
Appends-none None = tt
Appends-none (Some os) = sym (append-nil os)

-- octets that were taken of those at hand are their front
pub taken_at_hand : (a b : Option (List ℕ)) (xs : List ℕ) (n : ℕ) → IsFront a xs → n ≤ length xs → ConsumesSome a b n → Consumes a b (take n xs)
taken_at_hand None b xs n f h s = tt
taken_at_hand (Some os) None xs n f h s = absurd s.2
taken_at_hand (Some os) (Some ps) xs n f h (given, size, took) =
    took ∙ ap (λ l. l ++ ps) (sym (take_at given ps n size) ∙ ap (take n) (sym took ∙ f.1) ∙ take-append-le n xs f.0 h)
