use Rattle.mms_data.proofs.Front.{visible_is}
use Rattle.mms_data.proofs.GoodMembers.{boolean_known, bits_known, signed_known, unsigned_known, time_known, floating_kept, binary_time_kept}
use Rattle.mms_data.proofs.contents.known_simple.Goals as goal

pub known_boolean-requires : goal.known_boolean-requires
known_boolean-requires c = boolean_known c.args.at c.args.from c.args.contents.now c.requires.good.0 (rw c.in-Boolean.is at c.requires.good.1)

pub known_bits-requires : goal.known_bits-requires
known_bits-requires c = bits_known c.args.at c.args.from c.args.contents.now c.requires.good.0 (rw c.in-BitString.is at c.requires.good.1)

pub known_signed-requires-clause-good : goal.known_signed-requires-clause-good
known_signed-requires-clause-good c = signed_known c.args.at c.args.from c.args.contents.now c.requires.good.0 (rw c.in-Integer.is at c.requires.good.1)

pub known_unsigned-requires-clause-good : goal.known_unsigned-requires-clause-good
known_unsigned-requires-clause-good c = unsigned_known c.args.at c.args.from c.args.contents.now c.requires.good.0 (rw c.in-Unsigned.is at c.requires.good.1)

pub known_time-requires : goal.known_time-requires
known_time-requires c = time_known c.args.at c.args.from c.args.contents.now c.requires.good.0 (rw c.in-UtcTime.is at c.requires.good.1)

pub returns-in-VisibleString-clause-means : goal.returns-in-VisibleString-clause-means
returns-in-VisibleString-clause-means c =
    rw c.in-VisibleString.is (visible_is c.args.at c.args.from c.args.contents.now c.requires.good.0 (rw c.in-VisibleString.is at c.requires.good.1))

pub returns-in-FloatingPoint-clause-means : goal.returns-in-FloatingPoint-clause-means
returns-in-FloatingPoint-clause-means c =
    rw c.in-FloatingPoint.is (floating_kept c.args.at c.args.from c.args.contents.now c.requires.good.0 (rw c.in-FloatingPoint.is at c.requires.good.1))

pub returns-in-BinaryTime-clause-means : goal.returns-in-BinaryTime-clause-means
returns-in-BinaryTime-clause-means c =
    rw c.in-BinaryTime.is (binary_time_kept c.args.at c.args.from c.args.contents.now c.requires.good.0 (rw c.in-BinaryTime.is at c.requires.good.1))
