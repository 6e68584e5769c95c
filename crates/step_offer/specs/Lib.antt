pub mod StoreWords
