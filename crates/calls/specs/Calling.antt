-- What a call on settings and areas that are judged already asks, and what its search answers.
use Rattle.std.specs.Prelude.{◌≡◌, true, cond, List, ℕ, length, Result, Ok, Err}
use Rattle.theory.specs.Lists.{all}
use Rattle.theory.specs.Settings.{Card, allowed}
use Rattle.theory.specs.Settings as plain
use Rattle.theory.specs.Layout.{Areas}
use Rattle.theory.specs.Lookup.{Answer, bare, search_areas}
use Rattle.theory.specs.Ledger as ledgers
use Rattle.theory.specs.Ledger.{key_wrong}
use Rattle.theory.specs.Calls.{lent_lengths}
use Rattle.memory.specs.declared.refusals.Refusal.{Refusal}
use Rattle.memory.specs.declared.refusals.Refusal.TheVariants.{SettingOutOfRange, WrongAreaLength}
use Rattle.settings.specs.declared.Settings.{Settings}
use Rattle.settings.specs.Checked.{paper, card, code}
use Rattle.placing.specs.Ready.{Ready}
use Rattle.calls.specs.Data.{is_update}

-- 3, or what the lookup areas give
abbrev pub searched : Card → Areas → List ℕ → Answer
searched s a key = cond (key_wrong s key) (bare 3) (search_areas s a.clipped_counts a.buckets a.side_store key)

-- 1, 2, or the settings
unfoldable pub judged : plain.Settings → ℕ → ledgers.Call → Areas → Result Settings Refusal
judged t w c a =
    cond (allowed t) (cond (all (λ x. x) (lent_lengths (plain.card_of t) w c a)) (Ok (code t)) (Err WrongAreaLength)) (Err SettingOutOfRange)

-- allowed settings; for an update the right table of the hash, while the other calls read none; and lengths that are not refused with 2
pub record Callable (s : Settings) (table : List ℕ) (call : ledgers.Call) (work : List ℕ) (areas : Areas) : Type 0 where
  pub ok : allowed (paper s) ≡ true
  pub ready : is_update call ≡ true → Ready s table
  pub lengths : all (λ x. x) (lent_lengths (card s) (length work) call areas) ≡ true
