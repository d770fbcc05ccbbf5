-- The tasks of a run by holders, from the one that goes on down: what holds of each frame, and of what waits below it.
use Rattle.std.specs.Prelude.{List, [], ◌∷◌}
use Rattle.sil_ast.specs.declared.place.FuncId.{FuncId}
use Rattle.sil_ast.specs.declared.place.ObjectId.{ObjectId}
use Rattle.holder_model.specs.Frames.{Frame}
use Rattle.holder_model.specs.States.{Drops, Finishes, Runs, Task}

-- what holds of a frame that goes on over these tasks, of a frame that waits for a callee, of a callee that deinitialises an object,
-- of references that wait to be dropped, and of deinitialisers that wait above the finish of an object
module _ (Goes : Frame → List (Task Frame) → Type 0) (Waits : Frame → Frame → List (Task Frame) → Type 0)
    (Deinits : Frame → ObjectId → Type 0) (Dropped : List ObjectId → Type 0) (Finished : List FuncId → ObjectId → Type 0) where
  abbrev mutual
    -- the first task goes on
    pub Going : List (Task Frame) → Type 0
    Going [] = ⊥
    Going (Runs frame ∷ rest) = Goes frame rest × Below frame rest
    Going (Drops references ∷ rest) = Dropped references × Going rest
    Going (Finishes deinits o ∷ rest) = Finished deinits o × Going rest

    -- below a frame that runs: nothing, the frame that waits for it, or the finish of the object that it deinitialises
    pub Below : Frame → List (Task Frame) → Type 0
    Below callee [] = Unit {0}
    Below callee (Runs frame ∷ rest) = Waits callee frame rest × Below frame rest
    Below callee (Drops references ∷ rest) = ⊥
    Below callee (Finishes deinits o ∷ rest) = Deinits callee o × Finished deinits o × Going rest
