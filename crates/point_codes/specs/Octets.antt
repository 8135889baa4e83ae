-- The octets of the transfer messages (Q.704 clauses 14.2, 15.2 and 15.7 to 15.9).
use Rattle.std.specs.Prelude.{ℕ, ◌+◌, ◌*◌, List, ◌∷◌, ◌++◌}
use Rattle.std.specs.Int.{to_le_bytes, w16, w32}
use Rattle.point_codes.specs.declared.kinds.MsgKind.{MsgKind}

-- the service information octet: the network indicator in its high two bits, and service indicator 0, signalling network management (Q.704 clause 14.2)
abbrev pub service_information : ℕ → ℕ
service_information ni = ni * 64

-- the routing label: the destination's code, then the origin's, and signalling link code 0 in the last four bits (Q.704 clauses 2.2 and 15.2)
abbrev pub label : ℕ → ℕ → ℕ
label to from = to + from * 16384

-- the heading code H1 (Q.704 clauses 15.7 to 15.9)
abbrev pub h1_of : MsgKind → ℕ
h1_of MsgKind.Tfp = 1
h1_of MsgKind.Tfr = 3
h1_of MsgKind.Tfa = 5

-- the heading: H0 is 4 in the low four bits, H1 in the high four (Q.704 clause 15.3)
abbrev pub heading : MsgKind → ℕ
heading kind = h1_of kind * 16 + 4

-- the eight octets of a message from one point to another about a third, numbers low octet first
abbrev pub octets_of : ℕ → ℕ → ℕ → MsgKind → ℕ → List ℕ
octets_of ni to from kind about =
    service_information ni ∷ (to_le_bytes w32 (label to from) ++ (heading kind ∷ to_le_bytes w16 about))
