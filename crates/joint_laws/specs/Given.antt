-- What readers give: numbers of 64 bits, and octets.
use Rattle.std.specs.Prelude.{◌<◌, ◌^◌, ℕ, List, length}
use Rattle.std.specs.List.{AllByRecursion}
use Rattle.ber_core.specs.Contents.{AreVisible}
use Rattle.ber_core.specs.Length.{AreOctets}
use Rattle.list_core.specs.declared.event.Event.{Event}
use Rattle.list_core.specs.declared.event.EventKind.{EventKind}
use Rattle.list_core.specs.declared.event.EventKind.TheVariants as kinds
use Rattle.block_core.specs.declared.block.Block.{Block}

-- a number of 64 bits
abbrev pub IsWide : ℕ → Type 0
IsWide n = n < 2 ^ 64

-- the numbers of a frame are octets
abbrev pub IsGivenKind : {A : Type 0} → EventKind A → Type 0
IsGivenKind kinds.Clock = Unit {0}
IsGivenKind (kinds.Frame octets) = AreOctets octets
IsGivenKind (kinds.Mode on) = Unit {0}

-- an event with its number, as a reader of lists or captures gives it
pub record IsGiven {A : Type 0} (e : ℕ × Event A) : Type 0 where
  pub number : IsWide e.0
  pub moment : IsWide e.1.moment
  pub kind : IsGivenKind e.1.kind

-- a control block as it is read from words: its APPID has sixteen bits, and its gocbRef is visible
pub record IsGivenBlock {A : Type 0} (b : Block A) : Type 0 where
  pub app_id : b.app_id < 65536
  pub gocb_ref : AreVisible b.gocb_ref

-- blocks, of which there are no more than a number of 64 bits counts
pub record AreGivenBlocks {A : Type 0} (blocks : List (Block A)) : Type 0 where
  pub few : IsWide (length blocks)
  pub each : AllByRecursion IsGivenBlock blocks
