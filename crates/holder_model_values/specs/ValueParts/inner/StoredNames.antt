-- The values that storage keeps.
use Rattle.sil_ast.specs.declared.place.ObjectId.{ObjectId}
use Rattle.holder_model_values.specs.RunValues.Values.{Value, Object, Case, Full}

-- weak storage keeps `none`, or a reference in `some`
pub data IsWeakName : Value → Type 0 where
  none : IsWeakName (Case 0)
  names : (o : ObjectId) → IsWeakName (Full 1 (Object o))

-- unowned storage keeps a reference
pub data IsUnownedName : Value → Type 0 where
  names : (o : ObjectId) → IsUnownedName (Object o)
