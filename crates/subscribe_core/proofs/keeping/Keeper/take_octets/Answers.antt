use Rattle.std.proofs.Common.{◌++◌, List, ap, subst, sym, ◌∙◌}
use Rattle.std.specs.Prelude.{OnOk}
use Rattle.frame_core.specs.FrameViews.{apdu_of}
use Rattle.frame_core.specs.computed.FrameReading.{frame_at}
use Rattle.frame_core.specs.declared.frame_view.ApduView.{ApduView}
use Rattle.subscribe_core.specs.declared.entry.Entry.{Entry}
use Rattle.subscribe_core.specs.computed.Content.{content_by, content_with}
use Rattle.subscribe_core.specs.EventsRead.{Content, OfFault, OfSampled}
use Rattle.subscribe_core.specs.Changes.{changes}
use Rattle.subscribe_core.specs.computed.Steps.{registers_by, said_of, switched_entries}
use Rattle.subscribe_core.proofs.Switching.{answer_as, answer_fault, answer_sampled, registers_fault, registers_sampled}
use Rattle.subscribe_core.proofs.keeping.Keeper.take_octets.Goals as goal

pub returns-in_ok-put_entry-in-Err-clause-entries : goal.returns-in_ok-put_entry-in-Err-clause-entries
returns-in_ok-put_entry-in-Err-clause-entries g c =
    let s = c.args.self.now.state in
    subst (λ (es : List (Entry g.row.A.Denot)). g.E.EntrySink.gets c.args.entries.now es c.put_entry.new.self)
    (answer_as c.args.now s.mode s.blocks s.registers (OfFault c.in-Err.fault) (content_by (frame_at c.args.octets.now)) _ (ap content_by c.in-Err.ensures.exact)
    (answer_fault c.args.now s.mode s.blocks s.registers c.in-Err.fault)) c.in_ok-put_entry-in-Err.ensures.got

pub returns-in_ok-put_entry-in-Err-clause-registers : goal.returns-in_ok-put_entry-in-Err-clause-registers
returns-in_ok-put_entry-in-Err-clause-registers g c =
    let s = c.args.self.now.state in
    registers_fault c.args.now s.mode s.blocks s.registers c.in-Err.fault c.know_sizes.ensures
    ∙ ap (λ (k : Content). registers_by c.args.now s.mode k s.blocks s.registers) (sym (ap content_by c.in-Err.ensures.exact))

pub returns-in_ok-put_entry-in-Sampled-clause-entries : goal.returns-in_ok-put_entry-in-Sampled-clause-entries
returns-in_ok-put_entry-in-Sampled-clause-entries g c =
    let s = c.args.self.now.state in
    let read = ap content_by c.in-Ok.ensures.exact ∙ ap (λ (a : ApduView). content_with c.in-Ok.view.app_id (apdu_of a)) c.in-Sampled.is in
    subst (λ (es : List (Entry g.row.A.Denot)). g.E.EntrySink.gets c.args.entries.now es c.put_entry-in-Sampled.new.self)
    (answer_as c.args.now s.mode s.blocks s.registers OfSampled (content_by (frame_at c.args.octets.now)) _ read
    (answer_sampled c.args.now s.mode s.blocks s.registers)) c.in_ok-put_entry-in-Sampled.ensures.got

pub returns-in_ok-put_entry-in-Sampled-clause-registers : goal.returns-in_ok-put_entry-in-Sampled-clause-registers
returns-in_ok-put_entry-in-Sampled-clause-registers g c =
    let s = c.args.self.now.state in
    let read = ap content_by c.in-Ok.ensures.exact ∙ ap (λ (a : ApduView). content_with c.in-Ok.view.app_id (apdu_of a)) c.in-Sampled.is in
    registers_sampled c.args.now s.mode s.blocks s.registers c.know_sizes.ensures
    ∙ ap (λ (k : Content). registers_by c.args.now s.mode k s.blocks s.registers) (sym read)

pub returns-in-Goose-clause-entries : goal.returns-in-Goose-clause-entries
returns-in-Goose-clause-entries g c =
    let s = c.args.self.now.state in
    let read = ap content_by c.frame-view.ensures.exact ∙ ap (λ (a : ApduView). content_with c.frame-view.result.app_id (apdu_of a)) c.in-Goose.is in
    subst (λ (k : Content). OnOk c.take_goose.result (g.E.EntrySink.gets c.args.entries.now (switched_entries s.mode k 0 s.blocks s.registers ++ said_of c.args.now s.mode s.blocks s.registers k) c.take_goose.new.entries)) (sym read) c.take_goose.ensures.entries

pub returns-in-Goose-clause-room : goal.returns-in-Goose-clause-room
returns-in-Goose-clause-room g c = λ none fits.
    let s = c.args.self.now.state in
    let read = ap content_by c.frame-view.ensures.exact ∙ ap (λ (a : ApduView). content_with c.frame-view.result.app_id (apdu_of a)) c.in-Goose.is in
    let same = ap (λ (k : Content). changes (switched_entries s.mode k 0 s.blocks s.registers ++ said_of {A = g.row.A.Denot} c.args.now s.mode s.blocks s.registers k)) (sym read) in
    c.take_goose.ensures.room (same ∙ none) fits
