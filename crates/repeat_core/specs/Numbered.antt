-- Frames of GOOSE that are the same but for the two numbers that change while a state is repeated.
use Rattle.std.specs.Prelude.{ℕ}
use Rattle.pdu_core.specs.declared.goose.GoosePdu.{GoosePdu}
use Rattle.frame_core.specs.declared.frame.Apdu.{Apdu}
use Rattle.frame_core.specs.declared.frame.Apdu.TheVariants as apdu
use Rattle.frame_core.specs.declared.frame.Frame.{Frame}

-- the APDU of GOOSE with these as timeAllowedtoLive and sqNum
abbrev pub goose_numbered : {A : Type 0} → ℕ → ℕ → GoosePdu A → GoosePdu A
goose_numbered live sq_num p = record {
  gocb_ref = p.gocb_ref;
  live = live;
  dat_set = p.dat_set;
  go_id = p.go_id;
  t = p.t;
  st_num = p.st_num;
  sq_num = sq_num;
  simulation = p.simulation;
  conf_rev = p.conf_rev;
  nds_com = p.nds_com;
  members = p.members;
}

-- an APDU with these, which one of Sampled Values does not have
abbrev pub apdu_numbered : {A : Type 0} → ℕ → ℕ → Apdu A → Apdu A
apdu_numbered live sq_num (apdu.Goose p) = apdu.Goose (goose_numbered live sq_num p)
apdu_numbered live sq_num (apdu.Sampled p) = apdu.Sampled p

-- the frame with these
abbrev pub frame_numbered : {A : Type 0} → ℕ → ℕ → Frame A → Frame A
frame_numbered live sq_num f = record {
  destination = f.destination;
  source = f.source;
  tag = f.tag;
  app_id = f.app_id;
  reserved1 = f.reserved1;
  reserved2 = f.reserved2;
  apdu = apdu_numbered live sq_num f.apdu;
  trailer = f.trailer;
}

-- what all frames have in common that are the same but for these
abbrev pub unnumbered : {A : Type 0} → Frame A → Frame A
unnumbered f = frame_numbered 0 0 f
