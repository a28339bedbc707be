-- What a chain book stands for. Assumes nothing.
use Rattle.book.specs.Meanings.{Meaning}
use Rattle.chains.specs.Views.{content}
use Rattle.chain_book.specs.Books.{means}
use Rattle.chain_book.specs.declared.chain_book.ChainBook.{ChainBook}

-- the book that it stands for
abbrev pub meaning_of : ChainBook → Meaning
meaning_of b = means b.extent.cycle b.extent.links (content b.chains)
