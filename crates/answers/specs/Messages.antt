-- How the transfer messages in force are answered.
use Rattle.std.specs.Prelude.{ℕ, ◌==◌, ◌/◌, ◌%◌, true, List, [], ◌∷◌, ◌++◌, Option, Some, None, option_map, find, codes}
use Rattle.std.specs.List.{flat_map}
use Rattle.std.specs.Fmt.{digit_glyph}
use Rattle.point_codes.specs.declared.kinds.MsgKind.{MsgKind}
use Rattle.point_codes.specs.Codes.{code_text}
use Rattle.point_codes.specs.Octets.{octets_of}
use Rattle.profile.specs.declared.tables.Message.{Message}
use Rattle.profile.specs.declared.tables.RowState.{RowState}

-- the kind of a message
abbrev pub message_kind_text : MsgKind → List ℕ
message_kind_text MsgKind.Tfp = codes "TFP"
message_kind_text MsgKind.Tfr = codes "TFR"
message_kind_text MsgKind.Tfa = codes "TFA"

-- a message after a space, `TFA>CODE`
abbrev pub message_text : Message → List ℕ
message_text m = 32 ∷ (message_kind_text m.kind ++ 62 ∷ code_text m.to)

-- `messages TFA>CODE TFP>CODE ..` in rising code of the receiver
abbrev pub messages_text : List Message → List ℕ
messages_text messages = codes "messages" ++ flat_map message_text messages

-- the message to a point
abbrev pub message_to : List Message → ℕ → Option Message
message_to messages z = find (λ m. m.to == z) messages

-- an octet after a space, by two hexadecimal digits in upper case
abbrev pub octet_text : ℕ → List ℕ
octet_text octet = 32 ∷ (digit_glyph true (octet / 16) ∷ digit_glyph true (octet % 16) ∷ [])

-- `octets HH HH ..`, and `octets none` if no message is in force
abbrev pub octets_text : Option (List ℕ) → List ℕ
octets_text None = codes "octets none"
octets_text (Some octets) = codes "octets" ++ flat_map octet_text octets

-- the octets of the message in force from a row's point to a point about a destination, with the network indicator
abbrev pub octets_to : ℕ → ℕ → RowState → ℕ → Option (List ℕ)
octets_to ni dest state z = option_map (λ m. octets_of ni z state.point m.kind dest) (message_to state.messages z)
