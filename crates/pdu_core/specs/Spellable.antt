-- Which APDUs have a spelling.
use Rattle.std.specs.Prelude.{◌<◌, ◌^◌, ℕ, length, IfSome}
use Rattle.ber_core.specs.Contents.{AreVisible}
use Rattle.mms_data.specs.Spellable.{AllAreSpellable, IsTime}
use Rattle.pdu_core.specs.declared.goose.GoosePdu.{GoosePdu}

-- profile: a number is at most 4294967295
abbrev pub IsNumber : ℕ → Type 0
IsNumber n = n < 2 ^ 32

-- each field of the APDU has a spelling
pub record IsSpellableGoose {A : Type 0} (p : GoosePdu A) : Type 0 where
  pub gocb_ref : AreVisible p.gocb_ref
  pub live : IsNumber p.live
  pub dat_set : AreVisible p.dat_set
  pub go_id : IfSome p.go_id AreVisible
  pub t : IsTime p.t
  pub st_num : IsNumber p.st_num
  pub sq_num : IsNumber p.sq_num
  pub conf_rev : IsNumber p.conf_rev
  pub entries : IsNumber (length p.members)
  pub members : AllAreSpellable p.members 1
