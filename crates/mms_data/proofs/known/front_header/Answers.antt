use Rattle.std.proofs.Common.{sym, ◌∙◌, ap}
use Rattle.ber_core.specs.computed.Reading.{header_at}
use Rattle.mms_data.proofs.GoodMembers.{is_known, whole}
use Rattle.mms_data.proofs.known.front_header.Goals as goal

pub known_header-requires-clause-known : goal.known_header-requires-clause-known
known_header-requires-clause-known c = is_known (header_at 0 _) c.requires.0 (ap (header_at 0) (whole c.args.octets.now) ∙ c.requires.1)

pub returns-clause-is : goal.returns-clause-is
returns-clause-is c = ap (header_at 0) (sym (whole c.args.octets.now)) ∙ c.known_header.ensures.exact
