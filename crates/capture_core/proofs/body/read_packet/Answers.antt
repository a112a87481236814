use Rattle.std.proofs.Common.{◌≡◌, ◌-◌, [], ◌++◌, ◌∙◌, length, Result, ap, subst, sym, arith}
use Rattle.std.proofs.lemmas.List.{append-nil, length-append, length-take}
use Rattle.std.proofs.lemmas.Result.{err_from_is_err_and}
use Rattle.capture_core.specs.declared.body.Said.{Said}
use Rattle.list_core.proofs.Devices.{Consumes-append}
use Rattle.list_core.proofs.Readers.{OnlyOpen-append}
use Rattle.capture_core.specs.declared.capture_fault.CaptureCause.{CaptureCause}
use Rattle.capture_core.specs.Blocks.{packet_head, packet_in}
use Rattle.capture_core.specs.computed.Sections.{IsCaptured, IsFrameHead, IsSaidAs, TellsFrame, settled}
use Rattle.capture_core.proofs.BlocksRead.{said_packet}
use Rattle.capture_core.proofs.PacketsRead.{packet_found, packet_refused}
use Rattle.capture_core.proofs.Parts.{short_behind, unread_behind}
use Rattle.capture_core.proofs.body.read_packet.Goals as goal

pub returns-in_err-said-in-Ok : goal.returns-in_err-said-in-Ok
returns-in_err-said-in-Ok g c =
    let t = c.in_ok-take.ensures in
    let before = c.head_size-before.ensures in
    let h : length t.0 ≡ c.head_size-before.result = let m = simp length-take at t.1 in omega (arith, m, before.short.1) in
    let fits = c.in-Ok.ensures.fits in
    let e = err_from_is_err_and c.from_residual-in_err-said-in-Ok.result c.from_residual-in_err-said-in-Ok.ensures.1 in
    rw (e.1, e.2)
    (unread_behind {T = Said g.row.A.Denot} {S = Result (Said g.row.A.Denot) CaptureCause}
    (λ v octets. IsCaptured v (record { moment = c.in-Ok.found.moment; link_type = c.in-Ok.found.link_type; octets = octets }))
    (λ r body. IsSaidAs r (packet_in c.args.kind (settled c.args.section) body))
    (λ given. (given ≡ []) × IsFrameHead c.in-Ok.found) (TellsFrame (settled c.args.section) c.args.kind c.args.size)
    t.0 _ _ _ _ _ _ c.in-Ok.found.size c.args.size _ (omega (arith, h, fits.1, before.value)) t.2 t.3 t.4
    (λ given is. subst (TellsFrame (settled c.args.section) c.args.kind c.args.size) (sym (append-nil t.0) ∙ ap (λ l. t.0 ++ l) (sym is.0))
    (c.in-Ok.found, h ∙ before.value, c.in-Ok.ensures.value ∙ ap (λ l. packet_head c.args.kind (settled c.args.section) l c.args.size) (sym t.5), omega (arith, fits.1), is.1))
    c.in_err-said-in-Ok.ensures)

pub returns-in_err-pass-in-Ok : goal.returns-in_err-pass-in-Ok
returns-in_err-pass-in-Ok g c =
    let t = c.in_ok-take.ensures in
    let before = c.head_size-before.ensures in
    let h : length t.0 ≡ c.head_size-before.result = let m = simp length-take at t.1 in omega (arith, m, before.short.1) in
    let fits = c.in-Ok.ensures.fits in
    let v = c.in_ok-said-in-Ok.ensures in
    let e = err_from_is_err_and c.from_residual-in_err-pass-in-Ok.result c.from_residual-in_err-pass-in-Ok.ensures.1 in
    rw (e.1, e.2) (short_behind (t.0 ++ v.0) _ _ _ _ _ _ (c.args.size - c.head_size-before.result - c.in-Ok.found.size) c.args.size (simp length-append (omega (arith, h, v.1, fits.1, before.value)))
    (Consumes-append _ _ _ _ _ t.2 v.2) (OnlyOpen-append _ _ _ _ _ t.3 v.3) c.in_err-pass-in-Ok.ensures)

pub returns-in_err-pass-in-Err : goal.returns-in_err-pass-in-Err
returns-in_err-pass-in-Err g c =
    let t = c.in_ok-take.ensures in
    let before = c.head_size-before.ensures in
    let h : length t.0 ≡ c.head_size-before.result = let m = simp length-take at t.1 in omega (arith, m, before.short.1) in
    let e = err_from_is_err_and c.from_residual-in_err-pass-in-Err.result c.from_residual-in_err-pass-in-Err.ensures.1 in
    rw (e.1, e.2) (short_behind t.0 _ _ _ _ _ _ (c.args.size - c.head_size-before.result) c.args.size (omega (arith, h)) t.2 t.3 c.in_err-pass-in-Err.ensures)

pub returns-in_ok-pass-in-Ok : goal.returns-in_ok-pass-in-Ok
returns-in_ok-pass-in-Ok g c =
    let t = c.in_ok-take.ensures in
    let before = c.head_size-before.ensures in
    let h : length t.0 ≡ c.head_size-before.result = let m = simp length-take at t.1 in omega (arith, m, before.short.1) in
    let fits = c.in-Ok.ensures.fits in
    let v = c.in_ok-said-in-Ok.ensures in
    let p = c.in_ok-pass-in-Ok.ensures in
    let found = c.in-Ok.found in
    let all : length (t.0 ++ (v.0 ++ p.0)) ≡ c.args.size = simp length-append (omega (arith, h, v.1, p.1, fits.1, before.value)) in (
      t.0 ++ (v.0 ++ p.0),
      all,
      Consumes-append _ _ _ _ _ t.2 (Consumes-append _ _ _ _ _ v.2 p.2),
      OnlyOpen-append _ _ _ _ _ t.3 (OnlyOpen-append _ _ _ _ _ v.3 p.3),
      p.4 ∙ v.4 ∙ t.4,
      said_packet c.in_ok-said-in-Ok.said (record { moment = found.moment; link_type = found.link_type; octets = v.0 }) _
          (packet_found c.args.kind (settled c.args.section) t.0 v.0 p.0 c.args.size found (h ∙ before.value) v.1 all (c.in-Ok.ensures.value ∙ ap (λ l. packet_head c.args.kind (settled c.args.section) l c.args.size) (sym t.5)))
          v.5,
    )

pub returns-in_ok-pass-in-Err : goal.returns-in_ok-pass-in-Err
returns-in_ok-pass-in-Err g c =
    let t = c.in_ok-take.ensures in
    let before = c.head_size-before.ensures in
    let h : length t.0 ≡ c.head_size-before.result = let m = simp length-take at t.1 in omega (arith, m, before.short.1) in
    let p = c.in_ok-pass-in-Err.ensures in
    let all : length (t.0 ++ p.0) ≡ c.args.size = simp length-append (omega (arith, h, p.1)) in (
      t.0 ++ p.0,
      all,
      Consumes-append _ _ _ _ _ t.2 p.2,
      OnlyOpen-append _ _ _ _ _ t.3 p.3,
      p.4 ∙ t.4,
      packet_refused c.args.kind (settled c.args.section) t.0 p.0 c.args.size c.in-Err.cause (h ∙ before.value) all (c.in-Err.ensures.value ∙ ap (λ l. packet_head c.args.kind (settled c.args.section) l c.args.size) (sym t.5)),
    )
