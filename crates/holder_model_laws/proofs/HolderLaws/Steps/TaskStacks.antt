-- What holds of the tasks of a run goes over to what follows from it, and two such hold together.
use Rattle.std.proofs.Common.{List, [], ◌∷◌}
use Rattle.sil_ast.specs.declared.place.FuncId.{FuncId}
use Rattle.sil_ast.specs.declared.place.ObjectId.{ObjectId}
use Rattle.holder_model.specs.Frames.{Frame}
use Rattle.holder_model.specs.States.{Drops, Finishes, Runs, Task, dropping}
use Rattle.holder_model_laws.specs.HolderLaws.inner.Steps.Stacks.{Below, Going}

-- two that hold of tasks, and a third one that follows from both
module _ (G H K : Frame → List (Task Frame) → Type 0) (WG WH WK : Frame → Frame → List (Task Frame) → Type 0) (DG DH DK : Frame → ObjectId → Type 0)
    (RG RH RK : List ObjectId → Type 0) (FG FH FK : List FuncId → ObjectId → Type 0)
    (goes : (frame : Frame) (rest : List (Task Frame)) → G frame rest → H frame rest → K frame rest)
    (waits : (callee frame : Frame) (rest : List (Task Frame)) → WG callee frame rest → WH callee frame rest → WK callee frame rest)
    (deinits : (callee : Frame) (o : ObjectId) → DG callee o → DH callee o → DK callee o)
    (dropped : (os : List ObjectId) → RG os → RH os → RK os)
    (finished : (gs : List FuncId) (o : ObjectId) → FG gs o → FH gs o → FK gs o) where
  mutual
    pub going_both : (tasks : List (Task Frame)) → Going G WG DG RG FG tasks → Going H WH DH RH FH tasks → Going K WK DK RK FK tasks
    going_both [] h k = absurd h
    going_both (Runs frame ∷ rest) h k = (goes frame rest h.0 k.0, below_both rest frame h.1 k.1)
    going_both (Drops os ∷ rest) h k = (dropped os h.0 k.0, going_both rest h.1 k.1)
    going_both (Finishes gs o ∷ rest) h k = (finished gs o h.0 k.0, going_both rest h.1 k.1)

    pub below_both : (tasks : List (Task Frame)) (callee : Frame) → Below G WG DG RG FG callee tasks → Below H WH DH RH FH callee tasks → Below K WK DK RK FK callee tasks
    below_both [] callee h k = tt
    below_both (Runs frame ∷ rest) callee h k = (waits callee frame rest h.0 k.0, below_both rest frame h.1 k.1)
    below_both (Drops os ∷ rest) callee h k = absurd h
    below_both (Finishes gs o ∷ rest) callee h k = (deinits callee o h.0 k.0, finished gs o h.1 k.1, going_both rest h.2 k.2)

-- one that holds of tasks, and another that follows from it
module _ (G K : Frame → List (Task Frame) → Type 0) (WG WK : Frame → Frame → List (Task Frame) → Type 0) (DG DK : Frame → ObjectId → Type 0)
    (RG RK : List ObjectId → Type 0) (FG FK : List FuncId → ObjectId → Type 0)
    (goes : (frame : Frame) (rest : List (Task Frame)) → G frame rest → K frame rest)
    (waits : (callee frame : Frame) (rest : List (Task Frame)) → WG callee frame rest → WK callee frame rest)
    (deinits : (callee : Frame) (o : ObjectId) → DG callee o → DK callee o)
    (dropped : (os : List ObjectId) → RG os → RK os)
    (finished : (gs : List FuncId) (o : ObjectId) → FG gs o → FK gs o) where
  pub below_over : (tasks : List (Task Frame)) (callee : Frame) → Below G WG DG RG FG callee tasks → Below K WK DK RK FK callee tasks
  below_over tasks callee h =
      below_both G G K WG WG WK DG DG DK RG RG RK FG FG FK (λ frame rest x y. goes frame rest x) (λ callee frame rest x y. waits callee frame rest x)
      (λ callee o x y. deinits callee o x) (λ os x y. dropped os x) (λ gs o x y. finished gs o x) tasks callee h h

module _ (G : Frame → List (Task Frame) → Type 0) (W : Frame → Frame → List (Task Frame) → Type 0) (D : Frame → ObjectId → Type 0)
    (R : List ObjectId → Type 0) (F : List FuncId → ObjectId → Type 0) where
  -- another frame may stand over the same tasks, where what is next below it takes it so
  pub below_another : (callee other : Frame) (tasks : List (Task Frame)) → ((frame : Frame) (rest : List (Task Frame)) → W callee frame rest → W other frame rest)
      → ((o : ObjectId) → D callee o → D other o) → Below G W D R F callee tasks → Below G W D R F other tasks
  below_another callee other [] waits deinits h = tt
  below_another callee other (Runs frame ∷ rest) waits deinits h = (waits frame rest h.0, h.1)
  below_another callee other (Drops os ∷ rest) waits deinits h = absurd h
  below_another callee other (Finishes gs o ∷ rest) waits deinits h = (deinits o h.0, h.1, h.2)

  -- references wait to be dropped before the others go on
  pub going_dropping : (os : List ObjectId) (tasks : List (Task Frame)) → R os → Going G W D R F tasks → Going G W D R F (dropping os tasks)
  going_dropping [] tasks r h = h
  going_dropping (o ∷ os) tasks r h = (r, h)
