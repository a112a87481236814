-- What a view of a frame stands for, and what its octets are a part of.
use Rattle.std.specs.Prelude.{◌≡◌, ℕ, Bool, List, Result, Ok, Err}
use Rattle.std.specs.Borrow.{Bor}
use Rattle.ber_core.specs.declared.fault.Fault.{Fault}
use Rattle.mms_data.specs.Place.{IsPart}
use Rattle.pdu_core.specs.SampledViews.{asdus_source, sv_of}
use Rattle.pdu_core.specs.Views.{GooseIsPart, pdu_of}
use Rattle.frame_core.specs.declared.frame.Apdu.{Apdu}
use Rattle.frame_core.specs.declared.frame.Apdu.TheVariants as apdus
use Rattle.frame_core.specs.declared.frame.Frame.{Frame}
use Rattle.frame_core.specs.declared.frame_view.ApduView.{ApduView}
use Rattle.frame_core.specs.declared.frame_view.ApduView.TheVariants as views
use Rattle.frame_core.specs.declared.frame_view.FrameView.{FrameView}

-- the APDU that a view stands for
abbrev pub apdu_of : {A : Type 0} → ApduView → Apdu A
apdu_of (views.Goose v) = apdus.Goose (pdu_of v)
apdu_of (views.Sampled v) = apdus.Sampled (sv_of v)

-- the frame that a view stands for
abbrev pub frame_of : {A : Type 0} → FrameView → Frame A
frame_of v = record {
  destination = v.destination;
  source = v.source;
  tag = v.tag;
  app_id = v.app_id;
  reserved1 = v.reserved1;
  reserved2 = v.reserved2;
  apdu = apdu_of v.apdu;
  trailer = v.trailer.now;
}

-- the octets that the view of an APDU was read from are known to be its written form
abbrev pub is_written : ApduView → Bool
is_written (views.Goose v) = v.written
is_written (views.Sampled v) = v.written

-- the call answers a view of this frame
abbrev pub ShowsFrame : {A : Type 0} → Result FrameView Fault → Frame A → Type 0
ShowsFrame (Ok v) f = frame_of v ≡ f
ShowsFrame (Err e) f = ⊥

-- whatever octets the view of an APDU hands out are a part of the source: ASDUs are read from it where they stand
abbrev pub ApduIsPart : ApduView → Bor (List ℕ) → Type 0
ApduIsPart (views.Goose v) source = GooseIsPart v source
ApduIsPart (views.Sampled v) source = asdus_source v.asdus ≡ source

-- whatever octets the view hands out are a part of the source
pub record FrameIsPart (v : FrameView) (source : Bor (List ℕ)) : Type 0 where
  pub apdu : ApduIsPart v.apdu source
  pub trailer : IsPart v.trailer source
