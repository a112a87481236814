-- What is noted of a frame of GOOSE beside its octets: where its parts stand, and the APDU that they make up.
use Rattle.std.specs.Prelude.{◌≤◌, ◌<◌, ◌+◌, ℕ, Bool, List, length, slice_range, Option, Some, None, if◌then◌else◌}
use Rattle.mms_data.specs.computed.Left.{data_in}
use Rattle.pdu_core.specs.declared.goose.GoosePdu.{GoosePdu}
use Rattle.frame_core.specs.Envelope.{word_at}
use Rattle.frame_core.specs.computed.FrameReading.{tag_at}
use Rattle.frame_core.specs.declared.frame.Apdu.TheVariants.{Goose}
use Rattle.frame_core.specs.declared.frame.Frame.{Frame}
use Rattle.repeat_core.specs.declared.notes.Notes.{Notes}
use Rattle.repeat_core.specs.declared.notes.Part.{Part}

-- the octets of a part
abbrev pub part_of : List ℕ → Part → List ℕ
part_of o p = slice_range o p.from p.to

-- the same where it is there
abbrev pub part_if : Bool → List ℕ → Part → Option (List ℕ)
part_if there o p = if there then Some (part_of o p) else None

-- the APDU that is noted of octets, with these numbers as timeAllowedtoLive and sqNum
abbrev pub noted_pdu : {A : Type 0} → List ℕ → Notes → ℕ → ℕ → GoosePdu A
noted_pdu o n live sq_num = record {
  gocb_ref = part_of o n.gocb_ref;
  live = live;
  dat_set = part_of o n.dat_set;
  go_id = part_if n.has_go_id o n.go_id;
  t = n.t;
  st_num = n.st_num;
  sq_num = sq_num;
  simulation = n.simulation;
  conf_rev = n.conf_rev;
  nds_com = n.nds_com;
  members = data_in 16 (part_of o n.members);
}

-- the frame that is noted of octets, with these numbers
abbrev pub noted_frame : List ℕ → Notes → ℕ → ℕ → Frame (Unit {0})
noted_frame o n live sq_num = record {
  destination = slice_range o 0 6;
  source = slice_range o 6 12;
  tag = tag_at o;
  app_id = word_at o (n.ether_type + 2);
  reserved1 = word_at o (n.ether_type + 6);
  reserved2 = word_at o (n.ether_type + 8);
  apdu = Goose (noted_pdu o n live sq_num);
  trailer = slice_range o n.end (length o);
}

-- a part stands between two places
pub record IsBetween (low high : ℕ) (p : Part) : Type 0 where
  pub begins : low ≤ p.from
  pub ordered : p.from ≤ p.to
  pub ends : p.to ≤ high

-- the places that are noted are in their order, in so many octets
pub record IsPlaced (size : ℕ) (n : Notes) : Type 0 where
  pub apdu : n.ether_type + 10 ≤ n.live.at
  pub live : n.live.at < n.live.contents_from
  pub live_ends : n.live.contents_from ≤ n.live.contents_to
  pub between : n.live.contents_to ≤ n.sq_num.at
  pub sq_num : n.sq_num.at < n.sq_num.contents_from
  pub sq_num_ends : n.sq_num.contents_from ≤ n.sq_num.contents_to
  pub behind : n.sq_num.contents_to ≤ n.end
  pub inside : n.end ≤ size
  pub gocb_ref : IsBetween 0 n.live.at n.gocb_ref
  pub dat_set : IsBetween n.live.contents_to n.sq_num.at n.dat_set
  pub go_id : IsBetween n.live.contents_to n.sq_num.at n.go_id
  pub members : IsBetween n.sq_num.contents_to n.end n.members
