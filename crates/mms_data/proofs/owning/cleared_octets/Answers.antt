use Rattle.std.proofs.Common.{◌≡◌, ◌-◌, ℕ, suc, List, [], ◌∷◌, ◌++◌, length, take, ap, ap₂, ◌∙◌, arith}
use Rattle.mms_data.proofs.Cleared.{cleared_is}
use Rattle.mms_data.proofs.Sizes.{cleared_size}
use Rattle.mms_data.proofs.owning.cleared_octets.Goals as goal

pub returns-in_ok-push-in-len1-up-clause-value : goal.returns-in_ok-push-in-len1-up-clause-value
returns-in_ok-push-in-len1-up-clause-value g c =
    let o = c.args.bits.now.octets.now in
    let some = c.in-len1-up.len_at_least in
    let size : length o ≡ suc (length o - 1) = omega arith in
    let last = c.clear.ensures in
    let front : c.extend_from_slice.new.self.items ≡ take (length o - 1) o = c.in_ok-extend_from_slice-in-len1-up.ensures.items ∙ ap (λ (x : List ℕ). x ++ take (length o - 1) o) c.in_ok-octets-in-len1-up.ensures.items in
    c.from.ensures ∙ c.in_ok-push-in-len1-up.ensures.items ∙ ap₂ (λ (x : List ℕ) (y : ℕ). x ++ y ∷ []) front last ∙ cleared_is c.args.bits.now.unused o (length o - 1) size

pub returns-in_err-octets-in-len1-up-clause-none : goal.returns-in_err-octets-in-len1-up-clause-none
returns-in_err-octets-in-len1-up-clause-none g c =
    let o = c.args.bits.now.octets.now in
    let some = c.in-len1-up.len_at_least in
    let same = cleared_size c.args.bits.now.unused o in
    λ none. absurd (omega (arith, same, some, ap length none))
