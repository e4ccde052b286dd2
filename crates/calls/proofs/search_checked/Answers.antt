-- `calls::search_checked` meets its contract: 3, or the answer of the areas by the key's own H.
use Rattle.std.proofs.Common.{◌≡◌, length, sym, ◌∙◌, eq-eqb, ne_eqb}
use Rattle.theory.specs.Ledger.{key_wrong}
use Rattle.settings.specs.Checked.{paper, card}
use Rattle.settings.proofs.Laws.{key_width}
use Rattle.lookup.proofs.PlaceLaws.{hashed}
use Rattle.calls.proofs.search_checked.Goals as goal

pub h_rows-h-requires : goal.h_rows-h-requires
h_rows-h-requires c = key_width (paper c.args.s) c.requires.ok (c.if-key-width.false ∙ c.width.ensures)

pub returns-then-key-width : goal.returns-then-key-width
unfolding key_wrong
returns-then-key-width c = rw (c.refused.ensures, ne_eqb _ _ (λ e. c.if-key-width.true (e ∙ sym c.width.ensures)))

pub returns : goal.returns
unfolding key_wrong
returns c =
    let wide : length c.args.key.now ≡ (card c.args.s).width = c.if-key-width.false ∙ c.width.ensures in
    rw (eq-eqb _ _ wide) (c.search_at.ensures ∙ hashed (paper c.args.s) _ _ _ _ _ c.h_rows-h.ensures)
