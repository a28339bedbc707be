-- That a chain book is sound has one proof at most. Assumes nothing.
use Rattle.std.proofs.Math.Logic.{∥∥₁_elim}
use Rattle.std.specs.Prelude.{◌≡◌, ℕ}
use Rattle.std.proofs.Math.Bridge.{le_prop}
use Rattle.std.proofs.Math.Nat.{ℕ_set}
use Rattle.book.proofs.Props.{within_prop, formed_prop}
use Rattle.chains.specs.Calls.{Content}
use Rattle.chains.specs.Views.{content}
use Rattle.chain_book.specs.Books.{Sound}
use Rattle.chain_book.specs.declared.booking.Booking.{Booking}
use Rattle.chain_book.specs.declared.chain_book.ChainBook.{ChainBook}

sound_prop : (cycle links : ℕ) (m : Content Booking) (a b : Sound cycle links m) → a ≡ b
sound_prop cycle links m a b = λ i. record {
  ranged = record { cycled = within_prop a.ranged.cycled b.ranged.cycled i; linked = within_prop a.ranged.linked b.ranged.linked i };
  many = ℕ_set _ _ a.many b.many i;
  limited = le_prop a.limited b.limited i;
  formed = formed_prop _ a.formed b.formed i;
  elsewhere = ℕ_set _ _ a.elsewhere b.elsewhere i;
}

-- every chain book is sound
pub sound_of : (b : ChainBook) → Sound b.extent.cycle b.extent.links (content b.chains)
sound_of b = ∥∥₁_elim b.sound (sound_prop _ _ _) (λ s. s)
