-- An automaton over marks, which reads accesses: it steps where an access means something to the subject.
use Rattle.std.specs.Prelude.{◌≡◌, ℕ, List, [], map, slice_get, unwrap_or, Option, Some, None}
use Rattle.std.specs.declared.vec.Vec.{Vec}
use Rattle.std.specs.declared.alloc.Global.{Global}
use Rattle.sil_cfg.specs.declared.item.Item.{Item}
use Rattle.sil_cfg.specs.Layout.{Layout, item_at}
use Rattle.reach_engine.specs.declared.scan.Step.{Step}
use Rattle.reach_engine.specs.declared.scan.Step.TheVariants.{Go}

-- the accesses of an item
abbrev pub accesses_at : {A : Type 0} → List (Vec A Global) → ℕ → List A
accesses_at accesses i = unwrap_or (slice_get (map (λ v. v.items) accesses) i) []

abbrev pub step_in : {M : Type 0} → (ℕ → M → Step) → ℕ → Option M → Step
step_in step s None = Go s
step_in step s (Some mark) = step s mark

abbrev pub read_step : {A M : Type 0} → (ℕ → M → Step) → (A → Option M) → ℕ → A → Step
read_step step means s access = step_in step s (means access)

-- what an item's number has is what the item has
abbrev pub AgreesWith : {M : Type 0} → Layout → (ℕ → List M) → (Item → List M) → Type 0
AgreesWith g numbers items = (i : ℕ) (item : Item) → item_at g i ≡ Some item → numbers i ≡ items item
