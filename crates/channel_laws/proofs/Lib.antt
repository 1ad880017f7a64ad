mod Emitted
mod Stream
mod ComesOut
mod Carried
