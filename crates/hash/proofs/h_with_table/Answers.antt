-- The table's length says which way it is read.
use Rattle.std.proofs.Common.{length, refl, sym, ◌∙◌, ⊎_elim, arith, rules}
use Rattle.hash.proofs.LentTableLaws.{lent_length, half_length}
use Rattle.hash.proofs.KeyHashLaws.{by_byte_is, by_half_is, by_right, ipv4_fits, ipv4_gives, ipv4_hash}
use Rattle.hash.proofs.h_with_table.Goals as goal

-- at 13 bytes
pub by_bytes-requires : goal.by_bytes-requires
by_bytes-requires c = ipv4_fits c.args.table.now c.args.key.now c.requires c.if-key-eq-IPV4_WIDTH.true

pub returns-then-key-eq-IPV4_WIDTH-clause-entries : goal.returns-then-key-eq-IPV4_WIDTH-clause-entries
returns-then-key-eq-IPV4_WIDTH-clause-entries c = ipv4_gives c.args.table.now c.args.key.now c.requires c.if-key-eq-IPV4_WIDTH.true c.by_bytes.ensures.entries

pub returns-then-key-eq-IPV4_WIDTH-clause-right : goal.returns-then-key-eq-IPV4_WIDTH-clause-right
returns-then-key-eq-IPV4_WIDTH-clause-right c = λ right.
    ipv4_hash c.args.table.now c.args.key.now c.requires c.if-key-eq-IPV4_WIDTH.true right c.by_bytes.ensures.right

-- by the table's length
pub overflow_mul-key : goal.overflow_mul-key
overflow_mul-key c = ⊎_elim (λ e. search rules) (λ e. search rules) (lent_length (length c.args.table.now) (length c.args.key.now) c.requires)

pub by_halves-requires : goal.by_halves-requires
by_halves-requires c = let e = half_length (length c.args.table.now) (length c.args.key.now) c.requires c.if-table-key.false in omega arith

pub returns-then-table-key-clause-entries : goal.returns-then-table-key-clause-entries
returns-then-table-key-clause-entries c = c.by_bytes-then-table-key.ensures.entries ∙ sym (by_byte_is c.args.table.now c.args.key.now c.if-table-key.true)

pub returns-else-table-key-clause-entries : goal.returns-else-table-key-clause-entries
returns-else-table-key-clause-entries c = c.by_halves.ensures ∙ sym (by_half_is c.args.table.now c.args.key.now c.if-table-key.false)

pub returns-else-table-key-clause-right : goal.returns-else-table-key-clause-right
returns-else-table-key-clause-right c = λ right.
    c.by_halves.ensures ∙ sym (by_half_is c.args.table.now c.args.key.now c.if-table-key.false)
    ∙ by_right (length c.args.key.now) c.args.table.now right c.requires c.args.key.now refl (λ j. omega (arith, c.type_inv.key j))
