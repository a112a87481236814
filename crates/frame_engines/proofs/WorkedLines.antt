-- The lines of a few frames, computed, as docs/FORMATS.md shows them: a wrong definition does not check.
use Rattle.std.proofs.Common.{◌≡◌, true, false, Some, None, [], ◌∷◌, refl}
use Rattle.std.specs.Prelude.{codes}
use Rattle.std.specs.Fmt.{digits}
use Rattle.hex.specs.Hex.{encode_with}
use Rattle.frame_core.specs.declared.frame.Apdu.TheVariants as apdu
use Rattle.frame_core.specs.declared.frame.Frame.{Frame}
use Rattle.pdu_core.specs.declared.sampled.asdu.Asdu.{Asdu}
use Rattle.frame_engines.specs.FrameText.{frame_line}
use Rattle.frame_engines.specs.SampledText.{asdu_text}
use Rattle.mms_data.specs.Data.{boolean, simple}

-- the two frames that docs/FORMATS.md changes into faulty ones
abbrev goose_frame : Frame (Unit {0})
goose_frame = record {
  destination = 0x01 ∷ 0x0c ∷ 0xcd ∷ 0x01 ∷ 0x00 ∷ 0x01 ∷ [];
  source = 0x02 ∷ 0x00 ∷ 0x00 ∷ 0x00 ∷ 0x00 ∷ 0x01 ∷ [];
  tag = None;
  app_id = 1;
  reserved1 = 0;
  reserved2 = 0;
  apdu = apdu.Goose (record {
    gocb_ref = 0x47 ∷ [];
    live = 2000;
    dat_set = 0x44 ∷ [];
    go_id = None;
    t = record { seconds = 0; fraction = 0; quality = 0 };
    st_num = 1;
    sq_num = 0;
    simulation = false;
    conf_rev = 1;
    nds_com = false;
    members = simple (boolean true) ∷ [];
  });
  trailer = [];
}

abbrev least_asdu : Asdu (Unit {0})
least_asdu = record {
  sv_id = 0x53 ∷ [];
  dat_set = None;
  smp_cnt = 3998;
  conf_rev = 1;
  refr_tm = None;
  smp_synch = 2;
  smp_rate = None;
  sample = 0 ∷ 0x2a ∷ [];
  smp_mod = Some (0 ∷ []);
  field_89 = None;
}

abbrev sampled_frame : Frame (Unit {0})
sampled_frame = record {
  destination = 0x01 ∷ 0x0c ∷ 0xcd ∷ 0x04 ∷ 0x00 ∷ 0x01 ∷ [];
  source = 0x02 ∷ 0x00 ∷ 0x00 ∷ 0x00 ∷ 0x00 ∷ 0x01 ∷ [];
  tag = None;
  app_id = 0x4000;
  reserved1 = 0;
  reserved2 = 0;
  apdu = apdu.Sampled (record { asdus = least_asdu ∷ [] });
  trailer = [];
}

-- with a tag, reserved fields and a trailer; an ASDU that has each optional field
abbrev tagged_frame : Frame (Unit {0})
tagged_frame = record goose_frame { tag = Some (record { control = 0x8001 }); reserved1 = 0x8000; reserved2 = 0x00ff; trailer = 0xaa ∷ 0xbb ∷ [] }

abbrev whole_asdu : Asdu (Unit {0})
whole_asdu = record least_asdu { dat_set = Some (0x44 ∷ []); refr_tm = Some (record { seconds = 0x6553f100; fraction = 0x800000; quality = 0x0a }); smp_rate = Some 4000; field_89 = Some (1 ∷ 0xff ∷ []) }

pub record AreFrameLines : Type 0 where
  pub goose : frame_line 2 goose_frame
      ≡ codes "2 goose 010ccd010001 020000000001 tag=- appid=0001 r1=0000 r2=0000 ref=\"G\" live=2000 set=\"D\" id=- t=0000000000000000 st=1 sq=0 sim=false rev=1 com=false {true} trailer=-\n"
  pub tagged : frame_line 2 tagged_frame
      ≡ codes "2 goose 010ccd010001 020000000001 tag=8001 appid=0001 r1=8000 r2=00ff ref=\"G\" live=2000 set=\"D\" id=- t=0000000000000000 st=1 sq=0 sim=false rev=1 com=false {true} trailer=aabb\n"
  pub sampled : frame_line 4 sampled_frame
      ≡ codes "4 sv 010ccd040001 020000000001 tag=- appid=4000 r1=0000 r2=0000 {(id=\"S\" set=- cnt=3998 rev=1 t=- synch=2 rate=- sample=002a mod=00 f89=-)} trailer=-\n"
  pub whole : asdu_text whole_asdu ≡ codes "(id=\"S\" set=\"D\" cnt=3998 rev=1 t=6553f1008000000a synch=2 rate=4000 sample=002a mod=00 f89=01ff)"

frame_lines : AreFrameLines
unfolding digits encode_with
frame_lines = record { goose = refl; tagged = refl; sampled = refl; whole = refl }
