-- The number, the layer and the word of each fault, and how a layer is written.
use Rattle.std.specs.Prelude.{ℕ, List, Some, None, codes, Option}
use Rattle.request.specs.declared.layer.Layer.{Layer}
use Rattle.request.specs.declared.layer.Layer.TheVariants as layer
use Rattle.request.specs.declared.fault.NumberFault.{NumberFault}
use Rattle.request.specs.declared.fault.NumberFault.TheVariants.{NotDigits, TooLarge}
use Rattle.request.specs.declared.fault.LineFault.{LineFault}
use Rattle.request.specs.declared.fault.LineFault.TheVariants.{Unended, Spacing, UnknownAct, Dash, Number}
use Rattle.request.specs.declared.fault.RunFault.{RunFault}
use Rattle.request.specs.declared.fault.RunFault.TheVariants.{TooLong, NoNames, Line}

abbrev pub layer_bytes : Layer → List ℕ
layer_bytes layer.Text = codes "text"
layer_bytes layer.Line = codes "line"
layer_bytes layer.Number = codes "number"
layer_bytes layer.Session = codes "session"

abbrev pub number_number : NumberFault → ℕ
number_number (NotDigits w) = 81
number_number (TooLarge w) = 82

abbrev pub number_layer : NumberFault → Layer
number_layer f = layer.Number

abbrev pub number_word : NumberFault → ℕ
number_word (NotDigits w) = w
number_word (TooLarge w) = w

abbrev pub line_number : LineFault → ℕ
line_number Unended = 73
line_number Spacing = 74
line_number UnknownAct = 75
line_number (Dash w) = 76
line_number (Number f) = number_number f

abbrev pub line_layer : LineFault → Layer
line_layer Unended = layer.Line
line_layer Spacing = layer.Line
line_layer UnknownAct = layer.Line
line_layer (Dash w) = layer.Line
line_layer (Number f) = number_layer f

abbrev pub line_word : LineFault → Option ℕ
line_word Unended = None
line_word Spacing = None
line_word UnknownAct = Some 1
line_word (Dash w) = Some w
line_word (Number f) = Some (number_word f)

abbrev pub run_number : RunFault → ℕ
run_number TooLong = 71
run_number NoNames = 72
run_number (Line f) = line_number f

abbrev pub run_layer : RunFault → Layer
run_layer TooLong = layer.Text
run_layer NoNames = layer.Text
run_layer (Line f) = line_layer f

abbrev pub run_word : RunFault → Option ℕ
run_word TooLong = None
run_word NoNames = None
run_word (Line f) = line_word f
