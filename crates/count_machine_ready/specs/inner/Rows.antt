-- What an instruction of lowered code has, by what its row does in a run.
use Rattle.std.specs.Prelude.{◌≡◌}
use Rattle.holder_model.specs.Effects.{effect_of}
use Rattle.holder_model.specs.declared.row_effect.RowEffect.{RowEffect}
use Rattle.holder_model.specs.declared.row_effect.RowEffect.TheVariants as row
use Rattle.sil_ast.specs.declared.function.Function.{Function}
use Rattle.sil_ast.specs.declared.inst.Inst.{Inst}
use Rattle.sil_ast.specs.declared.module.Module.{Module}
use Rattle.sil_types_declarations.specs.TypeDefinitions.Declarations.{Declarations, declarations_of}
use Rattle.count_machine_ready.specs.inner.Parts.{AsksOne, CallsOne, ChoosesOne, ComputesOne, EmptiesOne, GivesNumber, GivesOne, MakesOne, NamesField}
use Rattle.count_machine_ready.specs.inner.Parts.{NamesMember}
use Rattle.count_machine_ready.specs.inner.Parts.{OpensOne, PutsOne, ReadsMember, TakesAndGives, TakesOne}

module _ (m : Module) (f : Function) (i : Inst) where
  abbrev pub d : Declarations
  d = declarations_of m

  -- no lowered code has rows that copy an operand, or that give all members
  abbrev pub Parts : RowEffect → Type 0
  Parts row.NoEffect = TakesOne i
  Parts row.GivesLiteral = GivesNumber i
  Parts row.GivesFunction = GivesOne i
  Parts row.Computes = ComputesOne i
  Parts row.TrapsWhereSet = TakesOne i
  Parts row.MakesObject = MakesOne d f i
  Parts row.MakesSlot = OpensOne d f i
  Parts row.RemovesSlot = TakesOne i
  Parts row.GivesOperand = TakesAndGives i
  Parts row.CopiesOperand = ⊥
  Parts row.RetainsOperand = TakesOne i
  Parts row.DropsOperand = TakesOne i
  Parts row.LoadsValue = TakesAndGives i
  Parts row.StoresValue = PutsOne d f i
  Parts row.DestroysPlace = EmptiesOne d f i
  Parts row.LoadsName = AsksOne d f i
  Parts row.Groups = GivesOne i
  Parts row.ChoosesCase = ChoosesOne d f i
  Parts row.GivesMember = ReadsMember d f i
  Parts row.GivesMembers = ⊥
  Parts row.AddressesMember = NamesMember d f i
  Parts row.AddressesField = NamesField d f i
  Parts row.CallsFunction = CallsOne d f i m.functions

  -- the row does this, and the instruction has what such a row has
  pub record HasRow (effect : RowEffect) : Type 0 where
    pub does : effect_of i.op ≡ effect
    pub has : Parts effect
