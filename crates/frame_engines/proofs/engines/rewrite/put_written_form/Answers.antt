use Rattle.std.proofs.Common.{◌≡◌, Some, None, not, refl, ap, sym, ◌∙◌}
use Rattle.std.specs.Prelude.{if◌then◌else◌}
use Rattle.frame_engines.specs.WrittenForm.{written_form}
use Rattle.frame_engines.proofs.RewriteLemmas.{form_read}
use Rattle.frame_engines.proofs.engines.rewrite.put_written_form.Goals as goal

pub returns-then-is_err-clause-text : goal.returns-then-is_err-clause-text
returns-then-is_err-clause-text g c =
    let form = c.encode_view.new.out.items in
    let read = form_read c.args.octets.now c.args.view.now form c.encode_view.result c.requires.read c.requires.spellable c.encode_view.ensures.too_long c.encode_view.ensures.written in
    let none : written_form c.args.octets.now ≡ None = read ∙ ap (λ b. if b then Some form else None) (c.is_err.ensures.negation ∙ ap not c.if-is_err.true) in
    rw none c.put_own_event.ensures.text

pub returns-then-is_err-clause-kept : goal.returns-then-is_err-clause-kept
returns-then-is_err-clause-kept g c =
    let form = c.encode_view.new.out.items in
    let read = form_read c.args.octets.now c.args.view.now form c.encode_view.result c.requires.read c.requires.spellable c.encode_view.ensures.too_long c.encode_view.ensures.written in
    let none : written_form c.args.octets.now ≡ None = read ∙ ap (λ b. if b then Some form else None) (c.is_err.ensures.negation ∙ ap not c.if-is_err.true) in
    rw none c.put_own_event.ensures.kept

pub returns-clause-text : goal.returns-clause-text
returns-clause-text g c =
    let form = c.encode_view.new.out.items in
    let read = form_read c.args.octets.now c.args.view.now form c.encode_view.result c.requires.read c.requires.spellable c.encode_view.ensures.too_long c.encode_view.ensures.written in
    let there : written_form c.args.octets.now ≡ Some c.as_slice.result.now =
    read ∙ ap (λ b. if b then Some form else None) (c.is_err.ensures.negation ∙ ap not c.if-is_err.false) ∙ ap (λ o. Some o) (sym c.as_slice.ensures.value) in
    rw there c.in_ok-put_frame_event.ensures

pub returns-clause-kept : goal.returns-clause-kept
returns-clause-kept g c =
    let form = c.encode_view.new.out.items in
    let read = form_read c.args.octets.now c.args.view.now form c.encode_view.result c.requires.read c.requires.spellable c.encode_view.ensures.too_long c.encode_view.ensures.written in
    let there : written_form c.args.octets.now ≡ Some form = read ∙ ap (λ b. if b then Some form else None) (c.is_err.ensures.negation ∙ ap not c.if-is_err.false) in
    rw there refl
