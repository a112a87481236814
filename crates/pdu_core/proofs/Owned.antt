-- An APDU in memory of its own is that of the view whose octets were copied. Stated apart, since a search for it
-- compares whole APDUs, and where one number differs it would go on into the members before it gives up.
use Rattle.std.specs.Prelude.{◌≡◌, ℕ, List, Option}
use Rattle.std.proofs.Common.{ap₂, ◌∙◌}
use Rattle.mms_data.specs.Data.{Data}
use Rattle.mms_data.specs.Meaning.{left}
use Rattle.pdu_core.specs.Views.{octets_if, pdu_of}
use Rattle.pdu_core.specs.declared.goose.GoosePdu.{GoosePdu}
use Rattle.pdu_core.specs.declared.view.GooseView.{GooseView}

-- the APDU with the view's numbers and flags and these octets and members
abbrev with_octets : {A : Type 0} → GooseView → List ℕ → List ℕ → Option (List ℕ) → List Data → GoosePdu A
with_octets v block set name entries = record {
  gocb_ref = block;
  live = v.live;
  dat_set = set;
  go_id = name;
  t = v.t;
  st_num = v.st_num;
  sq_num = v.sq_num;
  simulation = v.simulation;
  conf_rev = v.conf_rev;
  nds_com = v.nds_com;
  members = entries;
}

pub owned : {A : Type 0} (v : GooseView) (block set : List ℕ) (name : Option (List ℕ)) (entries : List Data) → block ≡ v.gocb_ref.now → set ≡ v.dat_set.now → name ≡ octets_if v.go_id → entries ≡ left v.members
    → with_octets {A = A} v block set name entries ≡ pdu_of v
owned {A = A} v block set name entries b s n e =
    ap₂ (λ x y. with_octets {A = A} v x y name entries) b s ∙ ap₂ (λ x y. with_octets {A = A} v v.gocb_ref.now v.dat_set.now x y) n e
