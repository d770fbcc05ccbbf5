-- The numbers that a run of lowered code keeps of each object.
use Rattle.std.specs.Prelude.{◌+◌, ◌-◌, List, [], ◌∷◌, set, slice_get, unwrap_or}
use Rattle.std.specs.List.{flat_map}
use Rattle.sil_ast.specs.declared.decl.Storage.TheVariants as storage
use Rattle.sil_ast.specs.declared.place.ObjectId.{ObjectId}
use Rattle.holder_model_values.specs.RunValues.Cells.{Cell}
use Rattle.holder_model.specs.Holders.{kept_references}
use Rattle.holder_model.specs.Outcomes.{Numbers}

abbrev pub no_numbers : Numbers
no_numbers = record { strong = 0; unowned = 0; weak = 0 }

-- a new object has one strong reference
abbrev pub new_numbers : Numbers
new_numbers = record { strong = 1; unowned = 0; weak = 0 }

abbrev pub numbers_of : List Numbers → ObjectId → Numbers
numbers_of stored o = unwrap_or (slice_get stored o.0) no_numbers

abbrev pub changed : (Numbers → Numbers) → List Numbers → ObjectId → List Numbers
changed f stored o = set stored o.0 (f (numbers_of stored o))

abbrev pub one_more : Numbers → Numbers
one_more n = record n { strong = n.strong + 1 }

abbrev pub one_less : Numbers → Numbers
one_less n = record n { strong = n.strong - 1 }

abbrev pub more_weak : Numbers → Numbers
more_weak n = record n { weak = n.weak + 1 }

abbrev pub less_weak : Numbers → Numbers
less_weak n = record n { weak = n.weak - 1 }

abbrev pub more_unowned : Numbers → Numbers
more_unowned n = record n { unowned = n.unowned + 1 }

abbrev pub less_unowned : Numbers → Numbers
less_unowned n = record n { unowned = n.unowned - 1 }

abbrev pub each_changed : (Numbers → Numbers) → List ObjectId → List Numbers → List Numbers
each_changed f [] stored = stored
each_changed f (o ∷ os) stored = each_changed f os (changed f stored o)

abbrev pub weakly_named : List Cell → List ObjectId
weakly_named cells = flat_map (kept_references storage.Weak) cells

abbrev pub unowned_named : List Cell → List ObjectId
unowned_named cells = flat_map (kept_references storage.Unowned) cells

-- these cells begin to name objects
abbrev pub named : List Cell → List Numbers → List Numbers
named cells stored = each_changed more_weak (weakly_named cells) (each_changed more_unowned (unowned_named cells) stored)

-- these cells name them no longer
abbrev pub unnamed : List Cell → List Numbers → List Numbers
unnamed cells stored = each_changed less_weak (weakly_named cells) (each_changed less_unowned (unowned_named cells) stored)
