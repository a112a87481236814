-- What stands around the contents of two numbers in the written form of an APDU of GOOSE.
use Rattle.std.specs.Prelude.{◌≡◌, ◌+◌, ◌-◌, ℕ, List, ◌++◌, length, slice_range, take, drop}
use Rattle.ber_core.specs.Written.{written_header}
use Rattle.pdu_core.specs.Goose.{goose_fields, goose_items}
use Rattle.pdu_core.specs.Written.{written_fields}
use Rattle.pdu_core.specs.declared.goose.GoosePdu.{GoosePdu}
use Rattle.repeat_core.specs.declared.notes.Notes.{Notes}

-- what stands in the contents of the element 61 before those of timeAllowedtoLive, which have the size that is noted
abbrev pub written_before : GoosePdu (Unit {0}) → Notes → List ℕ
written_before p n = written_fields (take 1 goose_fields) (take 1 (goose_items p)) ++ written_header 0x81 (n.live.contents_to - n.live.contents_from)

-- and behind these, before those of sqNum
abbrev pub written_between : GoosePdu (Unit {0}) → Notes → List ℕ
written_between p n = written_fields (take 4 (drop 2 goose_fields)) (take 4 (drop 2 (goose_items p))) ++ written_header 0x86 (n.sq_num.contents_to - n.sq_num.contents_from)

-- and behind these
abbrev pub written_behind : GoosePdu (Unit {0}) → List ℕ
written_behind p = written_fields (drop 7 goose_fields) (drop 7 (goose_items p))

-- an APDU stands in these octets in its written form but for the contents of the two, of which nothing is said
pub record IsWrittenAround (p : GoosePdu (Unit {0})) (o : List ℕ) (n : Notes) : Type 0 where
  pub front : slice_range o (n.ether_type + 10) n.live.contents_from ≡ written_header 0x61 (length (written_before p n) + (n.end - n.live.contents_from)) ++ written_before p n
  pub middle : slice_range o n.live.contents_to n.sq_num.contents_from ≡ written_between p n
  pub back : slice_range o n.sq_num.contents_to n.end ≡ written_behind p
