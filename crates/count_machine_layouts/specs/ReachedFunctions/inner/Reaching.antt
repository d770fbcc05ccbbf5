-- The search for the functions that a run can come to: marks by function number, and functions that wait to be followed.
use Rattle.std.specs.Prelude.{◌≡◌, ◌⊎◌, ◌<◌, ◌+◌, ℕ, List, All, Contains, Bool, not, Option, IfSome, Some, count_by, length, slice_get, take}
use Rattle.sil_ast.specs.declared.function.Function.{Function}
use Rattle.sil_ast.specs.declared.module.Module.{Module}
use Rattle.sil_ast.specs.declared.place.FuncId.{FuncId}
use Rattle.sil_types.specs.Typing.Values.{value_functions}
use Rattle.count_machine_model.specs.ReadyCode.ReadyModules.{Reaches}
use Rattle.count_machine_model.specs.declared.ready_code.function.ReadyClass.{ReadyClass}

-- P holds of the function that a value stands for, if it stands for one
abbrev pub HoldsOfNamed : (FuncId → Type 0) → Option FuncId → Type 0
HoldsOfNamed P named = IfSome named P

abbrev pub HoldsOfDeinits : (FuncId → Type 0) → ReadyClass → Type 0
HoldsOfDeinits P class = All P class.deinits

-- the number of one of so many functions
abbrev pub IsInside : ℕ → FuncId → Type 0
IsInside functions g = g.0 < functions

abbrev pub AreInside : ℕ → List FuncId → Type 0
AreInside functions = All (IsInside functions)

abbrev pub AreNamedInside : ℕ → List (Option FuncId) → Type 0
AreNamedInside functions = All (HoldsOfNamed (IsInside functions))

abbrev pub HaveDeinitsInside : ℕ → List ReadyClass → Type 0
HaveDeinitsInside functions = All (HoldsOfDeinits (IsInside functions))

abbrev pub AreMarked : List Bool → List FuncId → Type 0
AreMarked reached = All (Reaches reached)

abbrev pub AreNamedMarked : List Bool → List (Option FuncId) → Type 0
AreNamedMarked reached = All (HoldsOfNamed (Reaches reached))

abbrev pub HaveDeinitsMarked : List Bool → List ReadyClass → Type 0
HaveDeinitsMarked reached = All (HoldsOfDeinits (Reaches reached))

-- what was marked stays so, and what is new waits
pub record GoesOn (reached : List Bool) (waiting : List FuncId) (reached' : List Bool) (waiting' : List FuncId) : Type 0 where
  pub size : length reached' ≡ length reached
  pub kept : (g : FuncId) → Reaches reached g → Reaches reached' g
  pub waits : (g : FuncId) → Contains waiting g → Contains waiting' g
  pub new : (g : FuncId) → Reaches reached' g → Reaches reached g ⊎ Contains waiting' g
  pub room : count_by not reached' + length waiting' ≡ count_by not reached + length waiting

-- the first so many were marked
pub record MarksTo {A : Type 0} (Has : List Bool → A → Type 0) (xs : List A) (n : ℕ) (reached : List Bool) (waiting : List FuncId)
    (reached' : List Bool) (waiting' : List FuncId) : Type 0 where
  pub goes : GoesOn reached waiting reached' waiting'
  pub marked : All (Has reached') (take n xs)

-- what the functions of a module name is there
abbrev pub NamesAreInside : Module → Type 0
NamesAreInside m = (n : ℕ) (f : Function) → slice_get m.functions n ≡ Some f → AreNamedInside (length m.functions) (value_functions f)

-- all that the function names is marked
abbrev pub IsFollowed : List Bool → Function → Type 0
IsFollowed reached f = AreNamedMarked reached (value_functions f)

abbrev pub AreFollowed : Module → List Bool → Type 0
AreFollowed m reached = (g : FuncId) (f : Function) → Reaches reached g → slice_get m.functions g.0 ≡ Some f → IsFollowed reached f

-- but for those that wait
abbrev pub AreFollowedBut : Module → List Bool → List FuncId → Type 0
AreFollowedBut m reached waiting =
    (g : FuncId) (f : Function) → Reaches reached g → slice_get m.functions g.0 ≡ Some f → Contains waiting g ⊎ IsFollowed reached f

-- the function was followed
pub record Follows (m : Module) (function : FuncId) (reached : List Bool) (waiting : List FuncId) (reached' : List Bool) (waiting' : List FuncId) : Type 0 where
  pub goes : GoesOn reached waiting reached' waiting'
  pub followed : (f : Function) → slice_get m.functions function.0 ≡ Some f → IsFollowed reached' f

-- a search that began with some marks, and has these now
pub record Searches (m : Module) (first reached : List Bool) (waiting : List FuncId) : Type 0 where
  pub size : length reached ≡ length first
  pub kept : (g : FuncId) → Reaches first g → Reaches reached g
  pub but : AreFollowedBut m reached waiting

-- the entry is marked, and so are the deinitialisers of these classes, and what marked functions name
pub record AreFound (m : Module) (classes : List ReadyClass) (entry : FuncId) (reached : List Bool) : Type 0 where
  pub size : length reached ≡ length m.functions
  pub begun : Reaches reached entry
  pub deinits : HaveDeinitsMarked reached classes
  pub followed : AreFollowed m reached
