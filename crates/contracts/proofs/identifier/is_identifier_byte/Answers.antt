-- `contracts::identifier::is_identifier_byte` meets its contract.
-- Assumes nothing.
use Rattle.contracts.proofs.Identifiers.{alphanumeric}
use Rattle.contracts.proofs.identifier.is_identifier_byte.Goals as goal

pub returns-then-is_ascii_alphanumeric : goal.returns-then-is_ascii_alphanumeric
returns-then-is_ascii_alphanumeric c =
    rw (alphanumeric c.args.byte, ← c.is_ascii_alphanumeric.ensures.value, c.if-is_ascii_alphanumeric.true)

pub returns-else-is_ascii_alphanumeric : goal.returns-else-is_ascii_alphanumeric
returns-else-is_ascii_alphanumeric c =
    rw (alphanumeric c.args.byte, ← c.is_ascii_alphanumeric.ensures.value, c.if-is_ascii_alphanumeric.false)
