-- What is kept beside a frame that is held, and the frames that repeat that.
use Rattle.std.specs.Prelude.{◌≡◌, ℕ, List, Ok, IfSome}
use Rattle.frame_core.specs.computed.FrameReading.{frame_at}
use Rattle.frame_core.specs.declared.frame.Apdu.{Apdu}
use Rattle.frame_core.specs.declared.frame.Apdu.TheVariants as apdu
use Rattle.frame_core.specs.declared.frame.Frame.{Frame}
use Rattle.repeat_core.specs.Numbered.{frame_numbered, unnumbered}
use Rattle.repeat_core.specs.declared.again.Again.{Again}

-- the APDU is one of GOOSE with these as timeAllowedtoLive and sqNum
abbrev pub IsNumbered : ℕ → ℕ → Apdu (Unit {0}) → Type 0
IsNumbered live sq_num (apdu.Goose p) = (p.live ≡ live) × (p.sq_num ≡ sq_num)
IsNumbered live sq_num (apdu.Sampled p) = ⊥

-- what is to be kept suits the frame that the octets spell, whatever its two numbers
abbrev pub IsKeptOf : {B : Type 0} → (B → Frame (Unit {0}) → Type 0) → B → List ℕ → Type 0
IsKeptOf suits b o = (f : Frame (Unit {0})) → frame_at o ≡ Ok f → suits b (unnumbered f)

-- Octets that are alike to a frame that is held spell a frame that is that one, but for the two numbers that are told: what is kept
-- beside that one suits it.
pub record Repeats {B : Type 0} (suits : B → Frame (Unit {0}) → Type 0) (a : Again B) (o : List ℕ) : Type 0 where
  pub frame : Frame (Unit {0})
  pub read : frame_at o ≡ Ok frame
  pub goose : IsNumbered a.live a.sq_num frame.apdu
  pub numbered : frame ≡ frame_numbered a.live a.sq_num (unnumbered frame)
  pub beside : IfSome a.beside (λ b. suits b.now (unnumbered frame))
