-- Octets put in front of others, and over some of them.
use Rattle.std.proofs.Common.{◌≡◌, ℕ, ◌+◌, ◌-◌, ◌≤◌, List, ◌++◌, length, take, drop, ap, sym, ◌∙◌, arith, length-append}
use Rattle.std.proofs.lemmas.List.{drop-append-le, drop-drop, drop_at, length-drop, length-take}
use borrow.Rule.Slice.PartMut.{post_of, put_mid}

-- n octets were put in front of what stands from end on, and then n others, of which the first `from` stand in front of these
pub overlaid : (o first last view : List ℕ) (n from end : ℕ) → from ≤ n → n + from ≤ end → end ≤ length o → length first ≡ n → length last ≡ n → drop end o ≡ view
    → drop (end - n - from) (put_mid (end - n - from) (end - n - from + n - (end - n - from)) (put_mid (end - n) (end - (end - n)) o last) first) ≡ first ++ (drop (n - from) last ++ view)
overlaid o first last view n from end order room inside one two held =
    let a = end - n in
    let k = end - (end - n) in
    let s = end - n - from in
    let j = end - n - from + n - (end - n - from) in
    let behind = post_of a k o in
    let whole = put_mid a k o last in
    let in_front : length (take a o) ≡ a = omega (arith, length-take a o, inside) in
    let counted = length-append (take a o) (last ++ behind) in
    let counted_behind = length-append last behind in
    let front : length (take s whole) ≡ s = omega (arith, length-take s whole, counted, counted_behind, in_front, two, room) in
    let on : s + j ≡ a + (n - from) = omega (arith, order, room) in
    let ends : a + k ≡ end = omega (arith, room) in
    drop_at (take s whole) (first ++ post_of s j whole) s front
    ∙ ap (λ (l : List ℕ). first ++ l) (
    drop-drop j s whole ∙ ap (λ q. drop q whole) on ∙ sym (drop-drop (n - from) a whole) ∙ ap (drop (n - from)) (drop_at (take a o) (last ++ behind) a in_front) ∙ drop-append-le (n - from) last behind (omega (arith, two))
    ∙ ap (λ (l : List ℕ). drop (n - from) last ++ l) (drop-drop k a o ∙ ap (λ q. drop q o) ends ∙ held))
