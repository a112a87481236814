-- Octets that several reads leave in a slice.
use Rattle.std.proofs.Common.{◌≡◌, ℕ, ◌+◌, ◌≤◌, List, ◌++◌, take, length, ap, sym, ◌∙◌, arith}
use Rattle.std.proofs.lemmas.List.{length-take, take-append-le}
use Rattle.std.proofs.Math.Seq.{take-append-add}
use borrow.Rule.Slice.PartMut.{put_mid, post_of}

-- the front of a slice, of which n octets more were read
pub take-put_mid : (xs ys : List ℕ) (e k n : ℕ) → e ≤ length xs → n ≤ length ys → take (e + n) (put_mid e k xs ys) ≡ take e xs ++ take n ys
take-put_mid xs ys e k n el nk =
    let whole : length (take e xs) ≡ e = simp length-take (omega arith) in
    let part : take n (ys ++ post_of e k xs) ≡ take n ys = take-append-le n ys (post_of e k xs) nk in
    ap (λ j. take (j + n) (put_mid e k xs ys)) (sym whole) ∙ take-append-add (take e xs) (ys ++ post_of e k xs) n ∙ ap (λ l. take e xs ++ l) part
