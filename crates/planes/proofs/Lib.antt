mod SlotRays
mod RunRays
