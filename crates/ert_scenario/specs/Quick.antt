-- What one pass over the tokens of a text finds.

use Rattle.std.specs.Prelude.{◌≡◌, ℕ, suc, List, Option, Some, None, Ok, option_map}
use Rattle.json.specs.{Json.value, Token.Token}
use Rattle.json.specs.Token as tokens
use Rattle.serde_json.specs.{Data.{Data, boolean, number, string, array}, Read.{number_of, of_json, converted}, View.items_of}
use Rattle.ert_ops.specs.declared.op.Op.{Op}
use Rattle.ert_scenario.specs.{Rows.op_of, Walked.without_fault, Walks.raws_of, declared.doer.ListDoer.TheVariants.Everyone, declared.format.Format.Format}

-- the value of a token that is a whole value
abbrev pub scalar_of : Token → Option Data
scalar_of tokens.begin_object = None
scalar_of tokens.end_object = None
scalar_of tokens.begin_array = None
scalar_of tokens.end_array = None
scalar_of (tokens.key s) = None
scalar_of (tokens.string s) = Some (string s)
scalar_of (tokens.number s) = option_map number (number_of s)
scalar_of (tokens.boolean b) = Some (boolean b)
scalar_of tokens.null = None
scalar_of tokens.bad = None

-- of the tokens `old` the first are a value, which is this op, and the rest are `new`
pub record ReadsOp (format : Format) (old new : List Token) (op : Op) : Type 0 where
  pub value_is : Data
  pub reads : (depth : ℕ) → converted of_json (value (suc depth) old) ≡ Some (value_is, new)
  pub is : op_of format Everyone value_is ≡ Ok op

-- the first are an array of these ops
pub record ReadsOps (format : Format) (old new : List Token) (ops : List Op) : Type 0 where
  pub values : List Data
  pub reads : (depth : ℕ) → converted of_json (value (suc (suc depth)) old) ≡ Some (array (items_of values), new)
  pub are : raws_of format Everyone values ≡ without_fault ops
