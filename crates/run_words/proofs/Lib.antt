mod Cuts
mod Lookup
mod Loop
mod Meaning
mod Numbers
mod SizeWords
mod Spelling
mod TimeWords
