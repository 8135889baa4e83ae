-- The mask of a set's links, link by link.
use Rattle.std.proofs.Common.{◌≡◌, ◌≢◌, ℕ, zero, suc, ◌+◌, ◌-◌, ◌/◌, ◌%◌, ◌^◌, ◌<◌, List, [], ◌∷◌, ◌++◌, Option, Some, Bool, true, false, eqb, not, refl, sym, ap, ◌∙◌, arith, inl, inr, subst, length}
use Rattle.std.specs.Prelude.{slice_get}
use Rattle.std.specs.Option.{option_map_or}
use Rattle.std.proofs.Math.Nat.{pow-suc, div-div-eq-div-mul}
use Rattle.std.proofs.lemmas.Bool.{cases_eq}
use Rattle.std.proofs.lemmas.Nat.Bits.{bit_at-zero}
use Rattle.net_items.specs.declared.links.Link.{Link}
use Rattle.net_items.specs.declared.links.MarkBits.{MarkBits}
use Rattle.net_items.specs.Links.{has_bit, links_in, link_available, IsMask, IsWithBit}
use Rattle.net_items.proofs.LinkLemmas.{links_to, links_to_none, links_to_all, links_to_without}

-- no link has a bit
pub mask_first : (there : ℕ) (m : MarkBits) → IsMask (links_to there m 0) 0
mask_first there m = subst (λ (ls : List Link). IsMask ls 0) (links_to_none there m) (λ i low. ap (λ b. eqb b 1) (bit_at-zero i))

get_behind : (links : List Link) (link : Link) → slice_get (links ++ link ∷ []) (length links) ≡ Some link
get_behind [] link = refl
get_behind (l ∷ ls) link = get_behind ls link

get_beside : (links : List Link) (link : Link) (i : ℕ) → i ≢ length links → slice_get (links ++ link ∷ []) i ≡ slice_get links i
get_beside [] link zero ne = absurd (ne refl)
get_beside [] link (suc i) ne = refl
get_beside (l ∷ ls) link zero ne = refl
get_beside (l ∷ ls) link (suc i) ne = get_beside ls link i (λ e. ne (ap suc e))

-- one more link has its bit
pub mask_more : (links : List Link) (link : Link) (mask bits : ℕ) (up : Bool) → IsMask links mask → IsWithBit mask (length links) up bits → up ≡ link_available link → IsMask (links ++ link ∷ []) bits
mask_more links link mask bits up so_far bit is i low = elim (cases_eq i (length links)) [
  | inl e ↦
      subst (λ (k : ℕ). has_bit bits k ≡ option_map_or link_available (slice_get (links ++ link ∷ []) k) false) (sym e)
      (bit.here ∙ is ∙ sym (ap (λ (o : Option Link). option_map_or link_available o false) (get_behind links link)))
  | inr ne ↦ bit.others i low ne ∙ so_far i low ∙ sym (ap (λ (o : Option Link). option_map_or link_available o false) (get_beside links link i ne))
]

-- where no bit is left, no link is
pub links_to_last : (there : ℕ) (m : MarkBits) (slc : ℕ) → slc < 16 → there / 2 ^ slc ≡ 0 → links_to there m slc ≡ links_in there m
links_to_last there m slc low none = go (16 - slc) slc (omega (arith, low)) none
  where
    go : (k n : ℕ) → n + k ≡ 16 → there / 2 ^ n ≡ 0 → links_to there m n ≡ links_in there m
    go zero n all gone = links_to_all there m n (omega (arith, all))
    go (suc k) n all gone =
        let down : has_bit there n ≡ false = ap (λ q. eqb (q % 2) 1) gone in
        let next : there / 2 ^ suc n ≡ 0 = ap (λ p. there / p) (pow-suc 2 n) ∙ sym (div-div-eq-div-mul there (2 ^ n) 2) ∙ ap (λ q. q / 2) gone in
        let one : suc n ≡ n + 1 = omega arith in
        links_to_without there m n down ∙ go k (n + 1) (omega (arith, all)) (subst (λ (i : ℕ). there / 2 ^ i ≡ 0) one next)
