-- What is kept of what a row uses: the class, which of its members are used, and the status. The members follow from the row (own).
use Rattle.std.specs.Prelude.{◌≡◌, ℕ, ◌+◌, ◌*◌, ◌==◌, ◌-◌, ◌/◌, ◌%◌, Bool, List, [], ◌∷◌, Option, None, is_some, if◌then◌else◌, slice_get, slice_index_or, map}
use Rattle.net_items.specs.declared.lists.Row.{Row}
use Rattle.route_choice.specs.declared.choices.Far.{Far}
use Rattle.route_choice.specs.declared.choices.Far.TheVariants.{Allowed, Restricted, Prohibited}
use Rattle.route_choice.specs.declared.choices.Choice.{Choice}
use Rattle.route_choice.specs.Routes.{Offer, choose}
use Rattle.profile.specs.Status.{Source, offers}
use Rattle.profile.specs.Whole.{member}

-- the class, 0 to 5, whether the member in the first and in the second place is used, and the status
pub record KeptValue : Type 0 where
  pub class : ℕ
  pub first : Bool
  pub second : Bool
  pub status : Far

-- what is kept of a choice
abbrev pub kept : Choice → KeptValue
kept c = record { class = c.class; first = is_some (member c 0); second = is_some (member c 1); status = c.status }

-- the member that a row has in a place of a class: the mate in class 5, and a via of the class else
abbrev pub member_in : Source → Row → ℕ → ℕ → Option ℕ
member_in src row class position =
    if class == 5 then src.mate_of row.point else slice_get (slice_index_or row.classes (class - 1) []) position

-- the same, if it is used
abbrev pub used_member : Source → Row → ℕ → Bool → ℕ → Option ℕ
used_member src row class used position = if used then member_in src row class position else None

-- the choice of a row by what is kept of it
abbrev pub opened : Source → Row → KeptValue → Choice
opened src row k = record {
  class = k.class;
  members = used_member src row k.class k.first 0 ∷ used_member src row k.class k.second 1 ∷ [];
  status = k.status;
}

-- the choices of rows by what is kept in their places
abbrev pub opened_rows : Source → List Row → List KeptValue → List Choice
opened_rows src [] ks = []
opened_rows src (row ∷ rows) [] = []
opened_rows src (row ∷ rows) (k ∷ ks) = opened src row k ∷ opened_rows src rows ks

-- what is kept in each place has this status
abbrev pub kept_statuses : List KeptValue → List Far
kept_statuses ks = map (λ (k : KeptValue). k.status) ks

-- what is kept where the first class has an allowed via: its allowed vias are used
abbrev pub kept_first : Bool → Bool → KeptValue
kept_first first second = record { class = 1; first = first; second = second; status = Allowed }

-- it is kept of the choice of a row, and opens to it, whatever the row's mate offers, where `far` tells the far statuses
pub record IsChosenFirst (src : Source) (far : ℕ → Far) (row : Row) (k : KeptValue) : Type 0 where
  pub keeps : (mate : Option Offer) → k ≡ kept (choose src.tfr (offers src far row) mate)
  pub opens : (mate : Option Offer) → opened src row k ≡ choose src.tfr (offers src far row) mate

-- the number that stands for a status
abbrev pub status_number : Far → ℕ
status_number Allowed = 0
status_number Restricted = 1
status_number Prohibited = 2

-- the status by its number
abbrev pub numbered_status : ℕ → Far
numbered_status n = if n == 0 then Allowed else if n == 1 then Restricted else Prohibited

-- a byte has the class in four bits, a bit for each place, and the status in two
abbrev pub packed : KeptValue → ℕ
packed k = k.class * 16 + (if k.first then 1 else 0) * 8 + (if k.second then 1 else 0) * 4 + status_number k.status

-- and is read so
abbrev pub unpacked : ℕ → KeptValue
unpacked byte = record {
  class = byte / 16;
  first = byte / 8 % 2 == 1;
  second = byte / 4 % 2 == 1;
  status = numbered_status (byte % 4);
}
