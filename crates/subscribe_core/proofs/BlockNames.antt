-- A frame is of a block exactly where both have one name.
use Rattle.std.proofs.Common.{◌≡◌, true, nat_eq}
use Rattle.std.proofs.lemmas.Bool.{and_parts, and_from, eqb-true, eq-eqb}
use Rattle.std.proofs.lemmas.Slice.Eq.{bytes_eq-Decides}
use Rattle.std.specs.Str.{bytes_eq}
use Rattle.block_core.specs.declared.block.Block.{Block}
use Rattle.subscribe_core.specs.EventsRead.{FrameRead}
use Rattle.subscribe_core.specs.Matching.{is_of}

pub is_of_key : {A : Type 0} → (f : FrameRead) (b : Block A) → is_of f b ≡ true → (b.app_id ≡ f.app_id) × (b.gocb_ref ≡ f.pdu.gocb_ref)
is_of_key f b e =
    let parts = and_parts (nat_eq b.app_id f.app_id) (bytes_eq b.gocb_ref f.pdu.gocb_ref) e in
    (eqb-true b.app_id f.app_id parts.0, (bytes_eq-Decides b.gocb_ref f.pdu.gocb_ref).0 parts.1)

pub key_is_of : {A : Type 0} → (f : FrameRead) (b : Block A) → b.app_id ≡ f.app_id → b.gocb_ref ≡ f.pdu.gocb_ref → is_of f b ≡ true
key_is_of f b number octets =
    and_from (nat_eq b.app_id f.app_id) (bytes_eq b.gocb_ref f.pdu.gocb_ref) (eq-eqb b.app_id f.app_id number)
    ((bytes_eq-Decides b.gocb_ref f.pdu.gocb_ref).1 octets)
