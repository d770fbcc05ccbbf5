-- What has come on a trail since something else came.
use Rattle.std.specs.Prelude.{List, [], ◌∷◌, Bool, false, not, ◌&&◌, ◌||◌}
use Rattle.sil_cfg.specs.declared.item.Item.{Item}

-- back from the newest item one that passes q is met, and no item that is newer passes p
abbrev pub is_none_since : (Item → Bool) → (Item → Bool) → List Item → Bool
is_none_since p q [] = false
is_none_since p q (i ∷ t) = q i || (not (p i) && is_none_since p q t)
