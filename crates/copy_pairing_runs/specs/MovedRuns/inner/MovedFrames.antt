-- The frames of a function in two runs, where in the second one a copy c of v is a move, and a destroy of v behind it in its block is gone.
use Rattle.std.specs.Prelude.{◌≡◌, ◌<◌, ◌≤◌, ◌⊎◌, ℕ, List, [], ◌∷◌, length, set}
use Rattle.sil_ast.specs.declared.function.Function.{Function}
use Rattle.sil_ast.specs.declared.place.FuncId.{FuncId}
use Rattle.sil_ast.specs.declared.place.PointId.{PointId}
use Rattle.sil_ast.specs.declared.place.ValueId.{ValueId}
use Rattle.sil_cfg.specs.Items.{point_at}
use Rattle.sil_cfg.specs.declared.item.Item.{Item}
use Rattle.holder_model_laws.specs.holder_model.Data.{Datum}
use Rattle.holder_model_laws.specs.holder_model.Frames.{Entry, Frame, Gone, Held, LentPlace, entry_at}
use Rattle.holder_model_laws.specs.holder_model.HolderStates.{HolderState}
use Rattle.holder_model_laws.specs.holder_model.States.{Runs, Task}
use Rattle.holder_model_laws.specs.LockstepRuns.inner.Lockstep.{frame_at}
use Rattle.holder_model_values.specs.RunValues.Places.{Place}
use Rattle.holder_model_laws.specs.holder_model.Standing.{stands_at}
use Rattle.copy_pairing_acceptance.specs.MovedFunctions.inner.Structure.{old_point}

-- v and c hold the same datum in the first run, and in the second one v is gone
pub record IsCleared (c v : ValueId) (entries entries' : List Entry) : Type 0 where
  pub datum : Datum
  pub copy : entry_at entries c ≡ Held datum
  pub copied : entry_at entries v ≡ Held datum
  pub cleared : entries' ≡ set entries v.0 Gone

module _ (p : PointId) (c v : ValueId) (last : ℕ) where
  -- behind the copy, up to the destroy
  pub record Lags (q : PointId) : Type 0 where
    pub block : q.block.0 ≡ p.block.0
    pub behind : p.index < q.index
    pub until : q.index ≤ last

  -- frames that stand at these points. The second run has no destroy to make, so it stands at the next item where the first one stands there
  pub data AreAt (q q' : PointId) (entries entries' : List Entry) : Type 0 where
    level : q ≡ old_point p last q' → (Lags q → ⊥) → entries' ≡ entries → AreAt q q' entries entries'
    lagging : q' ≡ q → Lags q → IsCleared c v entries entries' → AreAt q q' entries entries'

  -- n is the function that was rewritten, from f to f'
  module _ (n : ℕ) (f f' : Function) where
    pub data IsLike (g : FuncId) (trail : List Item) (entries : List Entry) (trail' : List Item) (entries' : List Entry) : Type 0 where
      here : g.0 ≡ n → AreAt (stands_at f trail) (stands_at f' trail') entries entries' → IsLike g trail entries trail' entries'
      elsewhere : (g.0 ≡ n → ⊥) → trail' ≡ trail → entries' ≡ entries → IsLike g trail entries trail' entries'

    -- the first run alone has the destroy
    abbrev pub IsAlone : FuncId → List Item → Type 0
    IsAlone g trail = (g.0 ≡ n) × (stands_at f trail ≡ point_at p.block.0 last)

    -- what is known of the frames of the function in the states of the first run
    pub record KnowsFrames (First : HolderState → Type 0) : Type 0 where
      -- v's entry is gone or held, c has an entry, and a frame that goes on lends nothing
      pub held : (h : HolderState) → First h → (g : FuncId) → g.0 ≡ n → (slots : List Place) (lent : List LentPlace) (trail : List Item) (entries : List Entry)
          (rest : List (Task Frame)) → h.tasks ≡ Runs (frame_at g slots lent trail entries) ∷ rest
          → ((entry_at entries v ≡ Gone) ⊎ ((y : Datum) × (entry_at entries v ≡ Held y))) × (c.0 < length entries) × (lent ≡ [])
      -- none waits for a callee at the copy
      pub waits : (h : HolderState) → First h → (callee : Frame) (g : FuncId) → g.0 ≡ n → (slots : List Place) (lent : List LentPlace) (trail : List Item)
          (entries : List Entry) (rest : List (Task Frame)) → h.tasks ≡ Runs callee ∷ Runs (frame_at g slots lent trail entries) ∷ rest
          → stands_at f trail ≡ p → ⊥
