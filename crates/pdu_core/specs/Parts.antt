-- An APDU whose texts and members are kept elsewhere.
use Rattle.pdu_core.specs.Views.{octets_if}
use Rattle.pdu_core.specs.declared.goose.GoosePdu.{GoosePdu}
use Rattle.pdu_core.specs.declared.parts.GooseParts.{GooseParts}

-- the APDU that has these fields
abbrev pub pdu_of_parts : {A : Type 0} → GooseParts A → GoosePdu A
pdu_of_parts p = record {
  gocb_ref = p.gocb_ref.now;
  live = p.live;
  dat_set = p.dat_set.now;
  go_id = octets_if p.go_id;
  t = p.t;
  st_num = p.st_num;
  sq_num = p.sq_num;
  simulation = p.simulation;
  conf_rev = p.conf_rev;
  nds_com = p.nds_com;
  members = p.members.now;
}
