use Rattle.std.proofs.Common.{◌≡◌, ◌-◌, ◌%◌, ◌^◌, ℕ, suc, List, [], ◌∷◌, ◌++◌, length, take, ap, ap₂, ◌∙◌, arith, append_assoc}
use Rattle.std.specs.Prelude.{slice_index}
use Rattle.mms_data.proofs.Cleared.{cleared_is}
use Rattle.mms_data.proofs.view_writing.put_cleared.Goals as goal

pub returns-in-len1-up : goal.returns-in-len1-up
returns-in-len1-up g c =
    let o = c.args.bits.octets.now in
    let unused = c.args.bits.unused in
    let some = c.in-len1-up.len_at_least in
    let n = length o - 1 in
    let size : length o ≡ suc n = omega arith in
    c.push.ensures.items ∙ ap₂ (λ (x : List ℕ) (y : ℕ). x ++ y ∷ []) c.put_slice.ensures c.clear.ensures
    ∙ append_assoc c.args.out.now.items (take n o) ((slice_index o n - slice_index o n % 2 ^ unused) ∷ [])
    ∙ ap (λ (l : List ℕ). c.args.out.now.items ++ l) (cleared_is unused o n size)
