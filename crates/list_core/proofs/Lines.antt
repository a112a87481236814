-- Texts of lines, piece by piece.
use Rattle.std.proofs.Common.{cond, true, false, eqb, ltb, leb, ◌≡◌, ℕ, ◌+◌, ◌≤◌, ◌<◌, List, [], ◌∷◌, ◌++◌, take, drop, length, ap, sym, ◌∙◌, refl, arith}
use Rattle.std.specs.List.{onto_first}
use Rattle.std.specs.Prelude.{slice_range}
use Rattle.std.proofs.lemmas.Bool.Decides.{nat_tests}
use Rattle.list_core.specs.declared.device.InputEnd.{InputEnd}
use Rattle.list_core.specs.declared.device.InputEnd.TheVariants.{End, Failed}
use Rattle.list_core.specs.declared.list_fault.ListCause.TheVariants.{LineTooLong, ListTooLong, ReadFailed}
use Rattle.list_core.specs.Lines.{pieces, LineListing, reading, reading_of_pieces, line_judged, put_line, without_cr, fault_at, finished}
use Rattle.list_core.specs.Cuts.{HasNo}
use Rattle.list_core.proofs.Cuts.{put_front, cut_some, cut-append, cut-part, cut-rest}
use Rattle.std.proofs.lemmas.List.{take_at, drop_at, drop-append-le, length-take, take-append-le, length-append}
use Rattle.std.proofs.lemmas.Slice.{between_is}
use Rattle.list_core.proofs.Devices.{take-add}
use borrow.Rule.Slice.PartMut.{put_mid, post_of}

-- the held part of a buffer, once n octets were read behind it
pub slice_range-put_mid : (xs ys : List ℕ) (s e k n : ℕ) → s ≤ e → e ≤ length xs → n ≤ length ys → slice_range (put_mid e k xs ys) s (e + n) ≡ slice_range xs s e ++ take n ys
slice_range-put_mid xs ys s e k n se el nk =
    let whole : length (take e xs) ≡ e = simp length-take (omega arith) in
    let front : take e (put_mid e k xs ys) ≡ take e xs = take_at (take e xs) (ys ++ post_of e k xs) e whole in
    let behind : drop e (put_mid e k xs ys) ≡ ys ++ post_of e k xs = drop_at (take e xs) (ys ++ post_of e k xs) e whole in
    let part : take n (ys ++ post_of e k xs) ≡ take n ys = take-append-le n ys (post_of e k xs) nk in
    let both : take (e + n) (put_mid e k xs ys) ≡ take e xs ++ take n ys = take-add e n (put_mid e k xs ys) ∙ ap (λ l. l ++ take n (drop e (put_mid e k xs ys))) front ∙ ap (λ l. take e xs ++ take n l) behind ∙ ap (λ l. take e xs ++ l) part in
    between_is (put_mid e k xs ys) s (e + n) ∙ ap (drop s) both ∙ drop-append-le s (take e xs) (take n ys) (omega arith)
    ∙ ap (λ l. l ++ take n ys) (sym (between_is xs s e))

-- the held part, where nothing was read
pub slice_range-put_mid_none : (xs ys : List ℕ) (s e k : ℕ) → e ≤ length xs → slice_range (put_mid e k xs ys) s e ≡ slice_range xs s e
slice_range-put_mid_none xs ys s e k el =
    let whole : length (take e xs) ≡ e = simp length-take (omega arith) in
    let front : take e (put_mid e k xs ys) ≡ take e xs = take_at (take e xs) (ys ++ post_of e k xs) e whole in
    between_is (put_mid e k xs ys) s e ∙ ap (drop s) front ∙ sym (between_is xs s e)

judged-good : (n : ℕ) (line : List ℕ) (r : LineListing) → n < 1000000 → length line ≤ 4096 → line_judged n line r ≡ r
judged-good n line r a b =
    let x : leb 1000000 n ≡ false = grind (arith, nat_tests) in
    let y : ltb 4096 (length line) ≡ false = grind (arith, nat_tests) in
    rw (x, y) refl

judged-long : (n : ℕ) (line : List ℕ) (r : LineListing) → n < 1000000 → 4096 < length line → line_judged n line r ≡ fault_at n LineTooLong
judged-long n line r a b =
    let x : leb 1000000 n ≡ false = grind (arith, nat_tests) in
    let y : ltb 4096 (length line) ≡ true = grind (arith, nat_tests) in
    rw (x, y) refl

judged-many : (n : ℕ) (line : List ℕ) (r : LineListing) → 1000000 ≤ n → line_judged n line r ≡ fault_at n ListTooLong
judged-many n line r a =
    let x : leb 1000000 n ≡ true = grind (arith, nat_tests) in
    rw x refl

-- a whole line, its LF and a text
pub reading-line : (z : InputEnd) (n : ℕ) (line rest : List ℕ) → HasNo 10 line → n < 1000000 → length line ≤ 4096 →
    reading z n (line ++ 10 ∷ rest) ≡ put_line (without_cr line) (reading z (n + 1) rest)
unfolding reading
reading-line z n line rest h a b =
    let r = cut_some 10 rest in
    ap (reading_of_pieces z n) (cut-part 10 line rest h ∙ ap (λ l. line ∷ l) r.2)
    ∙ judged-good n line (put_line (without_cr line) (reading_of_pieces z (n + 1) (r.0 ∷ r.1))) a b
    ∙ ap (λ l. put_line (without_cr line) (reading_of_pieces z (n + 1) l)) (sym r.2)

-- what follows the last LF, at the end of the input
pub reading-rest : (n : ℕ) (rest : List ℕ) → HasNo 10 rest → 0 < length rest → n < 1000000 → length rest ≤ 4096 →
    reading End n rest ≡ put_line (without_cr rest) (record { lines = []; stop = finished })
unfolding reading
reading-rest n [] h s a b = absurd (omega arith)
reading-rest n (x ∷ xs) h s a b = ap (reading_of_pieces End n) (cut-rest 10 (x ∷ xs) h) ∙ judged-good n (x ∷ xs) _ a b

-- a line that is too long, whatever comes
pub reading-long : (z : InputEnd) (n : ℕ) (front more : List ℕ) → HasNo 10 front → n < 1000000 → 4096 < length front →
    reading z n (front ++ more) ≡ fault_at n LineTooLong
unfolding reading
reading-long z n [] more h a b = absurd (omega arith)
reading-long z n (x ∷ xs) more h a b =
    let r = cut_some 10 more in
    ap (reading_of_pieces z n) (cut-append 10 (x ∷ xs) more h ∙ ap (put_front (x ∷ xs)) r.2)
    ∙ first_long z n x (xs ++ r.0) r.1 a (simp length-append (omega arith))
  where
    first_long : (z : InputEnd) (n x : ℕ) (p : List ℕ) (ps : List (List ℕ)) → n < 1000000 → 4096 < length (x ∷ p) → reading_of_pieces z n ((x ∷ p) ∷ ps) ≡ fault_at n LineTooLong
    first_long z n x p [] a b = judged-long n (x ∷ p) _ a b
    first_long z n x p (q ∷ ps) a b = judged-long n (x ∷ p) _ a b

-- an octet after the last line that a list may have, whatever comes
pub reading-many : (z : InputEnd) (n : ℕ) (text more : List ℕ) → 0 < length text → 1000000 ≤ n → reading z n (text ++ more) ≡ fault_at n ListTooLong
unfolding reading
reading-many z n [] more h a = absurd (omega arith)
reading-many z n (x ∷ xs) more h a =
    let r = cut_some 10 (xs ++ more) in
    elim (eqb x 10) as (λ b. reading_of_pieces z n (cond b ([] ∷ pieces (xs ++ more)) (onto_first x (pieces (xs ++ more)))) ≡ fault_at n ListTooLong) [
      | true ↦ ap (λ l. reading_of_pieces z n ([] ∷ l)) r.2 ∙ judged-many n [] _ a
      | false ↦ ap (λ l. reading_of_pieces z n (onto_first x l)) r.2 ∙ first_many z n x r.0 r.1 a
    ]
  where
    first_many : (z : InputEnd) (n x : ℕ) (p : List ℕ) (ps : List (List ℕ)) → 1000000 ≤ n → reading_of_pieces z n ((x ∷ p) ∷ ps) ≡ fault_at n ListTooLong
    first_many z n x p [] a = judged-many n (x ∷ p) _ a
    first_many z n x p (q ∷ ps) a = judged-many n (x ∷ p) _ a

pub reading-end : (n : ℕ) → reading End n [] ≡ record { lines = []; stop = finished }
unfolding reading
reading-end n = refl

pub reading-failed : (n : ℕ) (rest : List ℕ) → HasNo 10 rest → length rest ≤ 4096 → (0 < length rest → n < 1000000) → reading Failed n rest ≡ fault_at n ReadFailed
unfolding reading
reading-failed n [] h l f = refl
reading-failed n (x ∷ xs) h l f = ap (reading_of_pieces Failed n) (cut-rest 10 (x ∷ xs) h) ∙ judged-good n (x ∷ xs) _ (f (omega arith)) l
