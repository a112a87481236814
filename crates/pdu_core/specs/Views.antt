-- What a view of an APDU stands for, and where its slices stand.
use Rattle.std.specs.Prelude.{◌≡◌, ℕ, List, Option, Some, None, Result, Ok, Err}
use Rattle.std.specs.Borrow.{Bor}
use Rattle.ber_core.specs.declared.fault.Fault.{Fault}
use Rattle.mms_data.specs.Meaning.{left}
use Rattle.mms_data.specs.Place.{IsPart, source_of}
use Rattle.pdu_core.specs.declared.goose.GoosePdu.{GoosePdu}
use Rattle.pdu_core.specs.declared.view.GooseView.{GooseView}

-- the octets of a text in memory, if there is one
abbrev pub octets_if : Option (Bor (List ℕ)) → Option (List ℕ)
octets_if None = None
octets_if (Some t) = Some t.now

-- the APDU that a view stands for
abbrev pub pdu_of : {A : Type 0} → GooseView → GoosePdu A
pdu_of v = record {
  gocb_ref = v.gocb_ref.now;
  live = v.live;
  dat_set = v.dat_set.now;
  go_id = octets_if v.go_id;
  t = v.t;
  st_num = v.st_num;
  sq_num = v.sq_num;
  simulation = v.simulation;
  conf_rev = v.conf_rev;
  nds_com = v.nds_com;
  members = left v.members;
}

-- the call answers a view of this APDU
abbrev pub ShowsGoose : {A : Type 0} → Result GooseView Fault → GoosePdu A → Type 0
ShowsGoose (Ok v) p = pdu_of v ≡ p
ShowsGoose (Err f) p = ⊥

-- a text that is there is a part of the source
abbrev pub IsPartIf : Option (Bor (List ℕ)) → Bor (List ℕ) → Type 0
IsPartIf None source = Unit {0}
IsPartIf (Some t) source = IsPart t source

-- whatever octets the view hands out are a part of the source
pub record GooseIsPart (v : GooseView) (source : Bor (List ℕ)) : Type 0 where
  pub gocb_ref : IsPart v.gocb_ref source
  pub dat_set : IsPart v.dat_set source
  pub go_id : IsPartIf v.go_id source
  pub members : IsPart (source_of v.members) source
