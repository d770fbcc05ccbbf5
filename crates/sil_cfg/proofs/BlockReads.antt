-- A block that was read from the graph's vector.
use Rattle.std.proofs.Common.{◌≡◌, ℕ, ◌<◌, List, length, get_or, map, ap, ◌∙◌, Some}
use Rattle.std.specs.Prelude.{Option, unwrap_or, option_map}
use Rattle.std.specs.List.{slice_get}
use Rattle.std.proofs.lemmas.Option.{slice_get-get_or, slice_get-map}
use Rattle.sil_cfg.specs.declared.item.Item.{Item}
use Rattle.sil_cfg.specs.declared.layout.BlockFlow.{BlockFlow}
use Rattle.sil_cfg.specs.Layout.{BlockLayout, block_of, layout_of, no_block, block_at, IsBlockSound, IsSound}
use Rattle.sil_cfg.proofs.Blocks.{all_get}

block_there : (blocks : List BlockFlow) (b : ℕ) (x : BlockFlow) → b < length blocks → get_or blocks b x ≡ x → slice_get (map block_of blocks) b ≡ Some (block_of x)
block_there blocks b x lt e = slice_get-map block_of blocks b ∙ ap (option_map block_of) (slice_get-get_or blocks b x lt ∙ ap (λ v. Some v) e)

pub block_read : (blocks : List BlockFlow) (kinds : List Item) (b : ℕ) (x : BlockFlow) → b < length blocks → get_or blocks b x ≡ x → block_at (layout_of blocks kinds) b ≡ block_of x
block_read blocks kinds b x lt e = ap (λ (o : Option BlockLayout). unwrap_or o no_block) (block_there blocks b x lt e)

pub block_sound : (blocks : List BlockFlow) (kinds : List Item) (b : ℕ) (x : BlockFlow) → b < length blocks → get_or blocks b x ≡ x → IsSound (layout_of blocks kinds)
    → IsBlockSound (layout_of blocks kinds) (block_of x)
block_sound blocks kinds b x lt e h = all_get (IsBlockSound (layout_of blocks kinds)) (map block_of blocks) b (block_of x) h.blocks (block_there blocks b x lt e)
