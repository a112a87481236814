-- Lines of a script with more fields than they may have, the members that a change hands in, and which of them are kept.
use Rattle.std.proofs.Common.{◌≡◌, ℕ, ◌∷◌, List, length, Option, Some, None, Ok, Err, true, refl, sym, ap, ◌∙◌, subst, Bor}
use Rattle.std.specs.Prelude.{[], Result, IsOk, is_ok, is_some, slice_range}
use Rattle.ber_core.specs.declared.fault.Fault.{Fault}
use Rattle.mms_data.specs.Data.{Data}
use Rattle.mms_data.specs.computed.Reading.{members_at}
use Rattle.mms_data.specs.declared.fault.ReadFault.{ReadFault}
use Rattle.mms_data.specs.declared.fault.ReadFault.TheVariants as read
use Rattle.mms_data.specs.Spelling.{FaultIn, SpellsAll}
use Rattle.mms_data.proofs.Again.{all_again}
use Rattle.mms_data.proofs.GoodMembers.{whole}
use Rattle.mms_data.proofs.Wrong.{all_wrong}
use Rattle.mms_data.proofs.WrongAgain.{all_wrong_again}
use Rattle.list_core.specs.Cuts.{cut_at, parts_after}
use Rattle.list_core.specs.declared.event_lines.MomentUnit.{MomentUnit}
use Rattle.list_core.proofs.Cuts.{cut_some}
use Rattle.script_core.specs.computed.CallLine.{change_said, octets_keep}
use Rattle.script_core.specs.declared.script.ScriptCause.TheVariants as cause
use Rattle.script_core.specs.declared.script.ScriptPart.{ScriptPart}

pub change_more : {A : Type 0} (unit : MomentUnit) (p : ScriptPart) (text moment first t second members : List ℕ) (more : Option (Bor (List ℕ))) → cut_at 44 text ≡ moment ∷ cut_at 44 first → cut_at 44 first ≡ t ∷ cut_at 44 second → cut_at 44 second ≡ members ∷ parts_after 44 more → is_some more ≡ true → change_said {A = A} unit p (cut_at 44 text) ≡ Err cause.ScriptForm
change_more unit p text moment first t second members None a b c e = absurd (cc)
change_more unit p text moment first t second members (Some rest) a b c e = let r = cut_some 44 rest.now in rw (a, b, c, r.2) refl

pub members_read : (o : List ℕ) (ds : List Data) → SpellsAll ds 1 (slice_range o 0 (length o)) → members_at 16 0 o ≡ Ok ds
members_read o ds s = ap (members_at 16 0) (sym (whole o)) ∙ all_again 16 1 refl 0 (slice_range o 0 (length o)) ds s

pub members_fault : (o : List ℕ) (f : Fault) → FaultIn f 1 0 (slice_range o 0 (length o)) → members_at 16 0 o ≡ Err f
members_fault o f w = ap (members_at 16 0) (sym (whole o)) ∙ all_wrong_again 16 1 f refl 0 (slice_range o 0 (length o)) w

faultless : (r : Result (List Data) Fault) → ((f : Fault) → r ≡ Err f → is_ok r ≡ true) → is_ok r ≡ true
faultless (Ok ds) none = refl
faultless (Err f) none = none f refl

-- members for which memory is wanted have no fault, and there are some
pub members_kept : {V : Type 0} (o : List ℕ) (answer : Result V ReadFault) (m : _) → answer ≡ Err (read.Memory m)
    → ((f : Fault) → FaultIn f 1 0 (slice_range o 0 (length o)) → answer ≡ Err (read.Fault f)) → (0 ≡ length o → IsOk answer) → octets_keep o ≡ true
members_kept [] answer m e fault none = let ok = subst IsOk e (none refl) in absurd (cc)
members_kept (b ∷ bs) answer m e fault none =
    faultless (members_at 16 0 (b ∷ bs)) (λ f wrong.
    let there = fault f (subst (FaultIn f 1 0) (sym (whole (b ∷ bs))) (all_wrong 16 1 f refl 0 (b ∷ bs) wrong)) in
    absurd (cc))
