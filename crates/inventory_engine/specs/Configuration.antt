-- What a frame of GOOSE says of how its control block is configured (IEC 61850-8-1).
use Rattle.std.specs.Prelude.{ℕ, List, length, Option}
use Rattle.pdu_core.specs.declared.goose.GoosePdu.{GoosePdu}

-- APPID, gocbRef, datSet, goID, which may be absent, confRev and the count of members
pub record Configuration : Type 0 where
  pub app_id : ℕ
  pub gocb_ref : List ℕ
  pub dat_set : List ℕ
  pub go_id : Option (List ℕ)
  pub conf_rev : ℕ
  pub entries : ℕ

-- that of a frame with this APPID and APDU
abbrev pub configuration_of : {A : Type 0} → ℕ → GoosePdu A → Configuration
configuration_of app_id p = record { app_id = app_id; gocb_ref = p.gocb_ref; dat_set = p.dat_set; go_id = p.go_id; conf_rev = p.conf_rev; entries = length p.members }
