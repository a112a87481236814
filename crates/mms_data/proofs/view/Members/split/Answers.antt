use Rattle.std.proofs.Common.{◌≡◌, ◌∷◌, ◌∙◌, length, ap, sym, refl}
use Rattle.std.specs.Prelude.{slice_range}
use Rattle.mms_data.specs.computed.Left.{data_in}
use Rattle.mms_data.specs.Meaning.{meaning}
use Rattle.mms_data.proofs.Parts.{view_of_part}
use Rattle.std.proofs.lemmas.Bool.{false≢true}
use Rattle.mms_data.proofs.Front.{front, front_some, front_known, front_reads}
use Rattle.mms_data.proofs.view.Members.split.Goals as goal

pub front_header-header-requires : goal.front_header-header-requires
front_header-header-requires c = let s = c.args.self in front_reads s.depth s.octets.now s.bounded c.requires s.spelled

pub known_kind-kind-requires : goal.known_kind-kind-requires
known_kind-kind-requires c = let s = c.args.self in front_known s.depth s.octets.now s.bounded c.requires s.spelled

pub overflow_sub-depth : goal.overflow_sub-depth
overflow_sub-depth c = let s = c.args.self in front_some s.depth s.octets.now s.bounded c.requires s.spelled

pub view-view-requires-clause-good : goal.view-view-requires-clause-good
view-view-requires-clause-good c = let s = c.args.self in let f = front s.depth s.octets.now s.bounded c.requires s.spelled c.known_kind-kind.result c.front_header-header.result c.known_kind-kind.ensures c.front_header-header.ensures.is in (f.value, f.contents)

pub invariant_of-rest : goal.invariant_of-rest
invariant_of-rest c = let s = c.args.self in let f = front s.depth s.octets.now s.bounded c.requires s.spelled c.known_kind-kind.result c.front_header-header.result c.known_kind-kind.ensures c.front_header-header.ensures.is in record { bounded = s.bounded; spelled = f.others; stands = λ t. absurd (false≢true t) }

pub returns-clause-first : goal.returns-clause-first
returns-clause-first c = let s = c.args.self in let f = front s.depth s.octets.now s.bounded c.requires s.spelled c.known_kind-kind.result c.front_header-header.result c.known_kind-kind.ensures c.front_header-header.ensures.is in
    let same : f.value ≡ meaning c.view-view.result = (let both = sym f.contents ∙ c.view-view.ensures.means in cc) in
    f.is ∙ ap (λ d. d ∷ data_in s.depth (slice_range s.octets.now c.front_header-header.result.contents_to (length s.octets.now))) same

pub returns-clause-part : goal.returns-clause-part
returns-clause-part c =
    let places = c.front_header-header.ensures.places in
    view_of_part c.view-view.result _ _ c.view-view.ensures.part (record { from = c.front_header-header.result.contents_from; to = c.front_header-header.result.contents_to; order = places.order; within = places.within; block = refl; place = refl; octets = refl })
