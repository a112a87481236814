use Rattle.std.specs.Prelude.{slice_range}
use Rattle.ber_core.specs.computed.FieldReading.{required_at, there_at}
use Rattle.ber_core.proofs.KnownFields.{required_read}
use Rattle.ber_core.proofs.fields.known_required.Goals as goal

pub known_header-requires-clause-known : goal.known_header-requires-clause-known
unfolding required_at there_at
known_header-requires-clause-known c = (required_read c.args.identifier c.args.at (slice_range c.args.octets.now c.args.at c.args.end) c.requires.known).0

pub returns-clause-exact : goal.returns-clause-exact
unfolding required_at there_at
returns-clause-exact c = (required_read c.args.identifier c.args.at (slice_range c.args.octets.now c.args.at c.args.end) c.requires.known).1 c.known_header.result c.known_header.ensures.exact
