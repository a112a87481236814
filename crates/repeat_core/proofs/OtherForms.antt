-- The written forms of frames that are the same but for two numbers have the same count of octets, where the numbers do.
use Rattle.std.proofs.Common.{◌≡◌, ℕ, pos, length, refl, sym, ◌∙◌, arith, ap}
use Rattle.ber_core.specs.Written.{integer_size}
use Rattle.pdu_core.specs.Written.{goose_contents, written_goose}
use Rattle.pdu_core.specs.declared.goose.GoosePdu.{GoosePdu}
use Rattle.pdu_core.proofs.GooseSizes.{contents_size, goose_size}
use Rattle.frame_core.specs.Written.{written_apdu, written_frame}
use Rattle.frame_core.specs.declared.frame.Apdu.{Apdu}
use Rattle.frame_core.specs.declared.frame.Apdu.TheVariants as apdu
use Rattle.frame_core.specs.declared.frame.Frame.{Frame}
use Rattle.frame_core.proofs.FrameSizes.{frame_size}
use Rattle.repeat_core.specs.Numbered.{apdu_numbered, frame_numbered, goose_numbered, unnumbered}

-- of the APDU
goose_as_long : {A : Type 0} (p : GoosePdu A) (l s m t : ℕ) → integer_size (pos l) ≡ integer_size (pos m) → integer_size (pos s) ≡ integer_size (pos t) →
    length (written_goose (goose_numbered l s p)) ≡ length (written_goose (goose_numbered m t p))
goose_as_long p l s m t live sq_num =
    let q = goose_numbered l s p in
    let r = goose_numbered m t p in
    let same : length (goose_contents q) ≡ length (goose_contents r) = omega (arith, contents_size q, contents_size r, live, sq_num) in
    sym (goose_size q (length (goose_contents q)) refl) ∙ goose_size r (length (goose_contents q)) same

apdu_as_long : {A : Type 0} (p : Apdu A) (l s m t : ℕ) → integer_size (pos l) ≡ integer_size (pos m) → integer_size (pos s) ≡ integer_size (pos t) →
    length (written_apdu (apdu_numbered l s p)) ≡ length (written_apdu (apdu_numbered m t p))
apdu_as_long (apdu.Goose p) l s m t live sq_num = goose_as_long p l s m t live sq_num
apdu_as_long (apdu.Sampled p) l s m t live sq_num = refl

-- of the frame
pub frame_as_long : {A : Type 0} (f : Frame A) (l s m t : ℕ) → integer_size (pos l) ≡ integer_size (pos m) → integer_size (pos s) ≡ integer_size (pos t) →
    length (written_frame (frame_numbered l s f)) ≡ length (written_frame (frame_numbered m t f))
frame_as_long f l s m t live sq_num =
    omega (arith, frame_size (frame_numbered l s f), frame_size (frame_numbered m t f), apdu_as_long f.apdu l s m t live sq_num)

-- with its own numbers a frame is itself
apdu_again : {A : Type 0} (a : Apdu A) (p : GoosePdu A) → a ≡ apdu.Goose p → apdu_numbered p.live p.sq_num (apdu_numbered 0 0 a) ≡ a
apdu_again a p is = ap (λ b. apdu_numbered p.live p.sq_num (apdu_numbered 0 0 b)) is ∙ sym is

pub frame_again : {A : Type 0} (f : Frame A) (p : GoosePdu A) → f.apdu ≡ apdu.Goose p → frame_numbered p.live p.sq_num (unnumbered f) ≡ f
frame_again f p is = ap (λ a. record {
  destination = f.destination;
  source = f.source;
  tag = f.tag;
  app_id = f.app_id;
  reserved1 = f.reserved1;
  reserved2 = f.reserved2;
  apdu = a;
  trailer = f.trailer;
}) (apdu_again f.apdu p is)
